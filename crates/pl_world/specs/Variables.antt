-- The variables of a call: PostgreSQL manual, "PL/pgSQL", "Declarations", "Structure of PL/pgSQL".
-- What names mean changes in five ways alone, of which the checker uses the same: a call is
-- entered, a block is opened, it declares a variable, it is closed, and later a record is given a
-- structure.
use Rattle.std.specs.Prelude.{ℕ, suc, ◌+◌, ◌-◌, Bool, false, not, List, [], ◌∷◌, ◌++◌}
use Rattle.std.specs.Prelude.{Option, codes, length, map, nat_eq, replicate}
use Rattle.std.specs.Prelude.{slice_set, take, unwrap_or}
use Rattle.pl_base.specs.declared.types.Ty.{Ty}
use Rattle.pl_base.specs.declared.types.Ty.TheVariants.{Bool as Boolean}
use Rattle.pl_base.specs.declared.value.Value.{Value}
use Rattle.pl_base.specs.declared.value.Value.TheVariants.{Bool as Truth}
use Rattle.pl_meaning.specs.pl_names.Names.{Name}
use Rattle.pl_meaning.specs.pl_names.declared.scope.Seen.{Seen}
use Rattle.pl_meaning.specs.pl_names.declared.scope.Shape.TheVariants.{Plain}
use Rattle.pl_meaning.specs.pl_names.declared.scope.Visible.{Visible}
use Rattle.pl_tree.specs.declared.command.Param.{Param}
use Rattle.pl_meaning.specs.pl_value.Frames.{Row}
use Rattle.pl_world.specs.World.{Static, Frame, World}

-- ---- what names mean

abbrev pub seen : Name → Ty → Seen
seen name ty = record { name = name; ty = ty; shape = Plain }

-- a parameter without a name is known as `$1` and so on alone
abbrev pub parameter : Param → Seen
parameter p = seen (unwrap_or p.name []) p.ty

abbrev pub visible : Name → List Seen → Visible
visible label variables = record { label = label; variables = variables }

-- A call is entered: the parameters, and inside of them FOUND, which hides one of its name. Both
-- stand under the routine's name.
abbrev pub entering : Name → List Param → Option Ty → Static
entering routine params result = record {
  scope = record {
    frames =
        visible routine (map parameter params) ∷
        visible routine (seen (codes "found") Boolean ∷ []) ∷ [];
    params = map (λ (p : Param). p.ty) params;
  };
  required = replicate (suc (length params)) false;
  result = result;
}

-- how many variables they have
abbrev pub variables_of : List Visible → ℕ
variables_of [] = 0
variables_of (b ∷ bs) = length b.variables + variables_of bs

-- with these blocks, and of the variables no more than theirs
abbrev pub with_blocks : List Visible → Static → Static
with_blocks blocks st = record {
  scope = record { frames = blocks; params = st.scope.params };
  required = take (variables_of blocks) st.required;
  result = st.result;
}

-- a block is opened
abbrev pub opening : Option Name → Static → Static
opening label st = with_blocks (st.scope.frames ++ visible (unwrap_or label []) [] ∷ []) st

-- the newest block has one variable more
abbrev pub with_variable : Seen → List Visible → List Visible
with_variable v [] = []
with_variable v (b ∷ []) = visible b.label (b.variables ++ v ∷ []) ∷ []
with_variable v (b ∷ c ∷ bs) = b ∷ with_variable v (c ∷ bs)

-- a variable is declared; where it is required, it takes no null
abbrev pub adding : Name → Ty → Bool → Static → Static
adding name ty is_required st = record {
  scope = record {
    frames = with_variable (seen name ty) st.scope.frames;
    params = st.scope.params;
  };
  required = st.required ++ is_required ∷ [];
  result = st.result;
}

-- the newest block is closed
abbrev pub closing : Static → Static
closing st = with_blocks (take (length st.scope.frames - 1) st.scope.frames) st

-- ---- with their values

abbrev pub with_frame : Frame → World → World
with_frame f w = record w { frame = f }

abbrev pub with_variables : Static → List Value → World → World
with_variables st values w = with_frame (record w.frame { static = st; values = values }) w

unfoldable pub opened : Option Name → World → World
opened label w = with_variables (opening label w.frame.static) w.frame.values w

unfoldable pub declared : Name → Ty → Bool → Value → World → World
declared name ty is_required v w =
    with_variables (adding name ty is_required w.frame.static) (w.frame.values ++ v ∷ []) w

-- there is one value for each variable
abbrev pub with_values_for : Static → World → World
with_values_for st w = with_variables st (take (length st.required) w.frame.values) w

unfoldable pub closed : World → World
closed w = with_values_for (closing w.frame.static) w

-- the variable of this place has this value
abbrev pub with_value : ℕ → Value → World → World
with_value at v w = with_frame (record w.frame { values = slice_set w.frame.values at v }) w

-- the place of the variable that was declared last
abbrev pub newest_place : World → ℕ
newest_place w = length w.frame.values - 1

-- ---- FOUND and ROW_COUNT

-- FOUND stands right behind the parameters
abbrev pub with_found : Bool → World → World
with_found is w = with_value (length w.frame.static.scope.params) (Truth is) w

-- so many rows were found or changed
unfoldable pub counted : ℕ → World → World
counted n w = with_found (not (nat_eq n 0)) (with_frame (record w.frame { row_count = n }) w)

-- ---- what expressions read

-- what stands as row 0 where an expression is evaluated: the variables, of which the first are
-- `$1` and so on
abbrev pub row_of : Frame → Row
row_of f = f.values
