-- What a name means: PostgreSQL manual, "Column References"; PL/pgSQL, "Variable Substitution".
use Rattle.std.specs.Prelude.{ℕ, zero, suc, ◌+◌, List, [], ◌∷◌, ◌++◌, length, map, is_some}
use Rattle.std.specs.Prelude.{Option, Some, None, Ok, Err, Bool, if◌then◌else◌, bytes_eq, slice_get, true, false}
use Rattle.pl_base.specs.States.{UNDEFINED_COLUMN, AMBIGUOUS_COLUMN, UNDEFINED_TABLE}
use Rattle.pl_base.specs.States.{INVALID_COLUMN_REFERENCE, UNDEFINED_PARAMETER}
use Rattle.pl_base.specs.declared.types.Ty.{Ty}
use Rattle.pl_base.specs.declared.types.Ty.TheVariants.{Row}
use Rattle.pl_catalog.specs.Objects.{routines_in, tables_in, table_named}
use Rattle.pl_catalog.specs.declared.object.Routine.{Routine}
use Rattle.pl_catalog.specs.declared.object.TableDef.{TableDef}
use Rattle.pl_resolved.specs.declared.expression.RExpr.TheVariants.{Place}
use Rattle.pl_resolved.specs.declared.query.Head.{Head}
use Rattle.pl_names.specs.declared.found.Found.{Found}
use Rattle.pl_names.specs.declared.found.Found.TheVariants.{Nothing, One, Several}
use Rattle.pl_names.specs.declared.found.Meaning.{Meaning}
use Rattle.pl_names.specs.declared.scope.Level.{Level}
use Rattle.pl_names.specs.declared.scope.Names.{Names}
use Rattle.pl_names.specs.declared.scope.Seen.{Seen}
use Rattle.pl_names.specs.declared.scope.Source.{Source}
use Rattle.pl_names.specs.declared.scope.Visible.{Visible}
use Rattle.pl_typing.specs.Resolved.{Resolved, ◌>>=◌}
use Rattle.pl_typing.specs.Typing.{headed}
use Rattle.pl_typing.specs.declared.typed.Typed.{Typed}

abbrev pub Name : Type 0
Name = List ℕ

-- the FROM of a query around, and whether its columns may not be named here
pub record Reach : Type 0 where
  pub sources : List Source
  pub is_barred : Bool

-- all that names are sought in
pub record Around : Type 0 where
  pub tables : List TableDef
  pub routines : List Routine
  -- of each block and routine around, the outermost first
  pub frames : List Visible
  pub params : List Ty
  -- of each query around, the outermost first
  pub levels : List Reach
  pub next_row : ℕ
  pub aggregates_row : ℕ
  pub may_aggregate : Bool

abbrev pub reach : Level → Reach
reach l = record { sources = l.sources.now; is_barred = l.is_barred }

abbrev pub around : Names → Around
around n = record {
  tables = tables_in n.catalog.now.objects;
  routines = routines_in n.catalog.now.objects;
  frames = n.scope.now.frames;
  params = n.scope.now.params;
  levels = map reach n.levels.now;
  next_row = n.next_row;
  aggregates_row = n.aggregates_row;
  may_aggregate = n.may_aggregate;
}

-- ---- what was found: nothing, one meaning, or several

abbrev pub also : Found → Found → Found
also Nothing other = other
also found Nothing = found
also found other = Several

-- what is found further in hides the rest
abbrev pub nearer : Found → Found → Found
nearer Nothing outer = outer
nearer inner outer = inner

abbrev pub here : Bool → ℕ → ℕ → Ty → Bool → Found
here is row column ty is_barred =
    if is then One (record { row = row; column = column; ty = ty; is_barred = is_barred })
    else Nothing

-- ---- columns

-- columns of this name, of which the first has this place
abbrev pub columns_named : Name → Bool → ℕ → ℕ → List Head → Found
columns_named x is_barred row column [] = Nothing
columns_named x is_barred row column (h ∷ hs) =
    also (here (bytes_eq h.name x) row column h.ty is_barred)
    (columns_named x is_barred row (column + 1) hs)

abbrev pub columns_in : Name → Bool → List Source → Found
columns_in x is_barred [] = Nothing
columns_in x is_barred (s ∷ ss) =
    also (columns_named x is_barred s.row 0 s.columns) (columns_in x is_barred ss)

abbrev pub columns_within : Name → List Reach → Found
columns_within x [] = Nothing
columns_within x (level ∷ inner) =
    nearer (columns_within x inner) (columns_in x level.is_barred level.sources)

abbrev pub is_any : Found → Bool
is_any Nothing = false
is_any (One m) = true
is_any Several = true

-- whether an item has a column of this name
abbrev pub is_column : Name → List Source → Bool
is_column x sources = is_any (columns_in x false sources)

-- ---- variables, which have row 0

abbrev pub variables_named : Name → ℕ → List Seen → Found
variables_named x place [] = Nothing
variables_named x place (v ∷ vs) =
    also (here (bytes_eq v.name x) 0 place v.ty false) (variables_named x (place + 1) vs)

abbrev pub variables_within : Name → ℕ → List Visible → Found
variables_within x place [] = Nothing
variables_within x place (frame ∷ inner) =
    nearer (variables_within x (place + length frame.variables) inner)
    (variables_named x place frame.variables)

-- ---- a name

abbrev pub allowed : Meaning → Resolved Meaning
allowed m = if m.is_barred then Err INVALID_COLUMN_REFERENCE else Ok m

abbrev pub the_one : Found → Resolved Meaning
the_one Nothing = Err UNDEFINED_COLUMN
the_one (One m) = allowed m
the_one Several = Err AMBIGUOUS_COLUMN

-- A name that is both a variable and a column is ambiguous.
unfoldable pub name_means : Name → Around → Resolved Meaning
name_means x a = the_one (also (columns_within x a.levels) (variables_within x 0 a.frames))

-- ---- a qualified name: None where nothing has the qualifier's name

abbrev pub both : Option Found → Option Found → Option Found
both None other = other
both found None = found
both (Some found) (Some other) = Some (also found other)

abbrev pub nearer_one : Option Found → Option Found → Option Found
nearer_one None outer = outer
nearer_one inner outer = inner

abbrev pub item_named : Name → Name → Bool → List Source → Option Found
item_named q x is_barred [] = None
item_named q x is_barred (s ∷ ss) =
    if bytes_eq s.name q then Some (columns_named x is_barred s.row 0 s.columns)
    else item_named q x is_barred ss

abbrev pub item_within : Name → Name → List Reach → Option Found
item_within q x [] = None
item_within q x (level ∷ inner) =
    nearer_one (item_within q x inner) (item_named q x level.is_barred level.sources)

abbrev pub labelled_here : Name → Name → ℕ → Visible → Option Found
labelled_here q x place frame =
    if bytes_eq frame.label q then Some (variables_named x place frame.variables) else None

-- of two of one label the inner one, unless the outer one alone has such a variable
abbrev pub nearer_labelled : Option Found → Option Found → Option Found
nearer_labelled None outer = outer
nearer_labelled inner None = inner
nearer_labelled (Some inner) (Some outer) = Some (nearer inner outer)

abbrev pub labelled : Name → Name → ℕ → List Visible → Option Found
labelled q x place [] = None
labelled q x place (frame ∷ inner) =
    nearer_labelled (labelled q x (place + length frame.variables) inner)
    (labelled_here q x place frame)

abbrev pub known_one : Option Found → Resolved Meaning
known_one None = Err UNDEFINED_TABLE
known_one (Some found) = the_one found

-- A column of the item of FROM, or a variable of the block or routine.
unfoldable pub qualified_means : Name → Name → Around → Resolved Meaning
qualified_means q x a = known_one (both (item_within q x a.levels) (labelled q x 0 a.frames))

-- ---- $n

abbrev pub parameter_at : ℕ → Option Ty → Resolved Meaning
parameter_at column None = Err UNDEFINED_PARAMETER
parameter_at column (Some ty) =
    Ok (record { row = 0; column = column; ty = ty; is_barred = false })

-- counted from 1; the parameters are the first variables
abbrev pub parameter_means : ℕ → Around → Resolved Meaning
parameter_means zero a = Err UNDEFINED_PARAMETER
parameter_means (suc n) a = parameter_at n (slice_get a.params n)

-- ---- the expression that reads a place; its heading is the name

abbrev pub placed : Name → Meaning → Typed
placed x m = headed (Place m.row m.column) m.ty x

abbrev pub name_of : Name → Around → Resolved Typed
name_of x a = name_means x a >>= (λ m. Ok (placed x m))

abbrev pub qualified_of : Name → Name → Around → Resolved Typed
qualified_of q x a = qualified_means q x a >>= (λ m. Ok (placed x m))

abbrev pub parameter_of : ℕ → Around → Resolved Typed
parameter_of n a = parameter_means n a >>= (λ m. Ok (placed [] m))

-- ---- types, of which those of rows have the names of tables

abbrev pub is_type : Ty → Around → Bool
is_type (Row x) a = is_some (table_named x a.tables)
is_type ty a = true

-- behind those there are: the types in front of the first that there isn't
abbrev pub known_types : List Ty → List Ty → Around → List Ty
known_types done [] a = done
known_types done (ty ∷ types) a =
    if is_type ty a then known_types (done ++ ty ∷ []) types a else done
