-- The variables of the calls that run: PostgreSQL manual, "PL/pgSQL", "Declarations", "Structure of
-- PL/pgSQL", "Obtaining the Result Status".
use Rattle.std.specs.Prelude.{ℕ, false, not, List, [], ◌∷◌, ◌++◌, nat_eq, slice_set, take}
use Rattle.pl_base.specs.declared.value.Value.{Value}
use Rattle.pl_base.specs.declared.value.Value.TheVariants.{Bool as Truth}
use Rattle.pl_variables.specs.declared.frames.Frame.{Frame}

-- The newest call and those below it, the newest first. What stands for no call comes last.
pub record Frames (C : Type 0) : Type 0 where
  pub newest : Frame C
  pub below : List (Frame C)

module _ {C : Type 0} where
  abbrev pub frame : C → List Value → Frame C
  frame call values = record { call = call; values = values; row_count = 0 }

  -- no call runs
  abbrev pub no_call : C → Frames C
  no_call call = record { newest = frame call []; below = [] }

  -- a call is entered: its arguments are the first variables, and FOUND behind them is false
  abbrev pub entered : C → List Value → Frames C → Frames C
  entered call arguments fs = record {
    newest = frame call (arguments ++ Truth false ∷ []);
    below = fs.newest ∷ fs.below;
  }

  abbrev pub left_by : List (Frame C) → Frames C → Frames C
  left_by [] fs = fs
  left_by (g ∷ gs) fs = record { newest = g; below = gs }

  -- the newest call is gone with its variables
  abbrev pub left : Frames C → Frames C
  left fs = left_by fs.below fs

  -- ---- of the newest call

  abbrev pub with_newest : Frame C → Frames C → Frames C
  with_newest f fs = record fs { newest = f }

  abbrev pub with_call : C → Frames C → Frames C
  with_call c fs = with_newest (record fs.newest { call = c }) fs

  abbrev pub with_values : List Value → Frames C → Frames C
  with_values values fs = with_newest (record fs.newest { values = values }) fs

  -- a variable is declared, behind the others
  abbrev pub declared : Value → Frames C → Frames C
  declared v fs = with_values (fs.newest.values ++ v ∷ []) fs

  -- a block is closed: so many variables are left
  abbrev pub closed : ℕ → Frames C → Frames C
  closed count fs = with_values (take count fs.newest.values) fs

  -- the variable of this place has this value
  abbrev pub with_value : ℕ → Value → Frames C → Frames C
  with_value at v fs = with_values (slice_set fs.newest.values at v) fs

  -- so many rows were found or changed, where FOUND has this place
  abbrev pub counted : ℕ → ℕ → Frames C → Frames C
  counted found rows fs =
      with_value found (Truth (not (nat_eq rows 0)))
      (with_newest (record fs.newest { row_count = rows }) fs)
