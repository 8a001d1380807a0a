-- The values that columns are given: PostgreSQL manual, "INSERT", "UPDATE". They are read from left
-- to right, and each is assigned to its column before the next one is read.
use Rattle.std.specs.Prelude.{ℕ, length, List, [], ◌∷◌, ◌++◌, Option, None, Err}
use Rattle.std.specs.Prelude.{slice_get, slice_set}
use Rattle.pl_base.specs.States.{SYNTAX_ERROR}
use Rattle.pl_catalog.specs.declared.object.Column.{Column}
use Rattle.pl_names.specs.Names.{Name}
use Rattle.pl_resolved.specs.declared.expression.RExpr.{RExpr}
use Rattle.pl_scope.specs.Answers.{Means, ◌>>=◌, gives, step, within, settled}
use Rattle.pl_scope.specs.Parts.{QueryPart}
use Rattle.pl_scope.specs.Resolution.{part, query_part}
use Rattle.pl_scope.specs.Steps.{first_row, plain_in}
use Rattle.pl_scope.specs.declared.made.Inner.{Inner}
use Rattle.pl_targets.specs.Columns.{column_named, defaults, given, place_of, with_place}
use Rattle.pl_targets.specs.Placing.{assigned_to, default_for, items_of, placed_on}
use Rattle.pl_targets.specs.declared.change.RRow.{RRow}
use Rattle.pl_targets.specs.declared.change.RRows.{RRows}
use Rattle.pl_targets.specs.declared.change.RRows.TheVariants as rows
use Rattle.pl_targets.specs.declared.values.Settings.{Settings}
use Rattle.pl_tree.specs.declared.command.Assignment.{Assignment}
use Rattle.pl_tree.specs.declared.command.NewRow.{NewRow}
use Rattle.pl_tree.specs.declared.command.NewRows.{NewRows}
use Rattle.pl_tree.specs.declared.command.NewRows.TheVariants as new
use Rattle.pl_tree.specs.declared.command.NewValue.{NewValue}
use Rattle.pl_tree.specs.declared.command.NewValue.TheVariants as value

-- ---- one value

abbrev pub value_for : Option Column → NewValue → Means RExpr
value_for c (value.Value e) = (part e).means >>= (λ x. step (assigned_to c x))
value_for c value.Default = step (default_for c)

-- ---- SET

abbrev pub nothing_set : Settings
nothing_set = record { columns = []; values = [] }

-- one more column, which is set once, and then its value
abbrev pub with_setting : Assignment → List Column → Settings → Means Settings
with_setting s columns done =
    step (with_place SYNTAX_ERROR (place_of s.column 0 columns) done.columns) >>= (λ places.
    value_for (column_named s.column columns) s.value >>= (λ x.
    gives (record { columns = places; values = done.values ++ x ∷ [] })))

-- behind those there are
abbrev pub settings_on : List Assignment → List Column → Settings → Means Settings
settings_on [] columns done = gives done
settings_on (s ∷ ss) columns done =
    with_setting s columns done >>= (λ done. settings_on ss columns done)

-- ---- VALUES

-- the row with the value in the column of this place
abbrev pub with_value : NewValue → ℕ → List Column → List RExpr → Means (List RExpr)
with_value v place columns row =
    value_for (slice_get columns place) v >>= (λ x. gives (slice_set row place x))

-- A row of all columns, of which those of these places take the values in turn. There is one value
-- for each of them.
abbrev pub row_on : List NewValue → List ℕ → List Column → List RExpr → Means (List RExpr)
row_on [] [] columns row = gives row
row_on [] (p ∷ ps) columns row = step (Err SYNTAX_ERROR)
row_on (v ∷ vs) [] columns row = value_for None v >>= (λ _. step (Err SYNTAX_ERROR))
row_on (v ∷ vs) (p ∷ ps) columns row =
    with_value v p columns row >>= (λ row. row_on vs ps columns row)

abbrev pub row_of : List NewValue → List ℕ → List Column → Means (List RExpr)
row_of values places columns = row_on values places columns (defaults columns)

abbrev pub rows_on : List NewRow → List ℕ → List Column → List RRow → Means (List RRow)
rows_on [] places columns done = gives done
rows_on (r ∷ rs) places columns done =
    row_of r.values places columns >>= (λ row.
    rows_on rs places columns (done ++ record { values = row } ∷ []))

-- without a list of columns the first row says how many are given
abbrev pub first_length : List NewRow → ℕ
first_length [] = 0
first_length (r ∷ rs) = length r.values

abbrev pub rows_of_values : List NewRow → List ℕ → List Column → Means RRows
rows_of_values list places columns =
    within (plain_in []) (rows_on list places columns []) >>= (λ list. gives (rows.Values list))

-- ---- a query

-- its row stands behind the row of the aggregates
abbrev pub placed : Inner → List ℕ → List Column → Means (List RExpr)
placed q places columns = λ a made.
    settled (placed_on q.heads (items_of (slice_get made.queries q.number)) 0 (first_row a) places
    columns (defaults columns)) made

abbrev pub rows_of_query : QueryPart → List Name → List ℕ → List Column → Means RRows
rows_of_query query names listed columns =
    query >>= (λ q. placed q (given names listed (length q.heads) columns) columns >>= (λ row.
    gives (rows.Query q.number row)))

-- ---- DEFAULT VALUES

abbrev pub row_of_defaults : List ℕ → List Column → Means RRows
row_of_defaults places columns =
    row_of [] places columns >>= (λ row. gives (rows.Values (record { values = row } ∷ [])))

-- ---- all rows

abbrev pub rows_of : NewRows → List Name → List ℕ → List Column → Means RRows
rows_of (new.Values list) names listed columns =
    rows_of_values list (given names listed (first_length list) columns) columns
rows_of (new.Query q) names listed columns = rows_of_query (query_part q) names listed columns
rows_of new.Defaults names listed columns = row_of_defaults (given names listed 0 columns) columns
