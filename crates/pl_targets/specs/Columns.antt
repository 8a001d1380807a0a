-- The columns of a table that is changed: PostgreSQL manual, "INSERT", "UPDATE".
use Rattle.std.specs.List.{list_any, range_with_len}
use Rattle.std.specs.Prelude.{ℕ, ◌+◌, min, nat_eq, length, map, List, [], ◌∷◌, ◌++◌}
use Rattle.std.specs.Prelude.{Option, Some, None, Ok, Err, bytes_eq, if◌then◌else◌}
use Rattle.pl_base.specs.States.{UNDEFINED_COLUMN, UNDEFINED_TABLE}
use Rattle.pl_base.specs.declared.state.State.{State}
use Rattle.pl_base.specs.declared.value.Value.TheVariants.{Null}
use Rattle.pl_catalog.specs.Objects.{table_named}
use Rattle.pl_catalog.specs.declared.object.Column.{Column}
use Rattle.pl_catalog.specs.declared.object.TableDef.{TableDef}
use Rattle.pl_names.specs.Names.{Name, Around}
use Rattle.pl_resolved.specs.declared.expression.RExpr.{RExpr}
use Rattle.pl_resolved.specs.declared.expression.RExpr.TheVariants.{Constant}
use Rattle.pl_assigning.specs.pl_typing.Resolved.{Resolved, ◌>>=◌}

abbrev pub columns_by : Option TableDef → Resolved (List Column)
columns_by None = Err UNDEFINED_TABLE
columns_by (Some t) = Ok t.columns

-- of the table of this name
abbrev pub columns_of : Name → Around → Resolved (List Column)
columns_of x a = columns_by (table_named x a.tables)

-- ---- columns that are named

-- the place of the first column of this name, counted on from this number
abbrev pub place_of : Name → ℕ → List Column → Option ℕ
place_of x at [] = None
place_of x at (c ∷ cs) = if bytes_eq c.name x then Some at else place_of x (at + 1) cs

abbrev pub column_named : Name → List Column → Option Column
column_named x [] = None
column_named x (c ∷ cs) = if bytes_eq c.name x then Some c else column_named x cs

-- with one more place, which fails so where it is there already
abbrev pub with_place : State → Option ℕ → List ℕ → Resolved (List ℕ)
with_place twice None done = Err UNDEFINED_COLUMN
with_place twice (Some at) done =
    if list_any (nat_eq at) done then Err twice else Ok (done ++ at ∷ [])

-- the places of the columns of these names, behind those there are
abbrev pub places_on : State → List Name → List Column → List ℕ → Resolved (List ℕ)
places_on twice [] columns done = Ok done
places_on twice (x ∷ xs) columns done =
    with_place twice (place_of x 0 columns) done >>= (λ done. places_on twice xs columns done)

-- The columns that are given: those of the list, or without a list the first ones, as many as there
-- are values.
abbrev pub given : List Name → List ℕ → ℕ → List Column → List ℕ
given [] listed count columns = range_with_len 0 (min count (length columns))
given (x ∷ xs) listed count columns = listed

-- ---- columns that aren't

abbrev pub or_null : Option RExpr → RExpr
or_null None = Constant Null
or_null (Some e) = e

abbrev pub default_of : Column → RExpr
default_of c = or_null c.default

-- a row in which no column is given
abbrev pub defaults : List Column → List RExpr
defaults columns = map default_of columns
