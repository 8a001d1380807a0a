-- The items of a FROM, and `*`: PostgreSQL manual, "Table Expressions", "Select Lists".
use Rattle.std.specs.Prelude.{ℕ, ◌+◌, ◌&&◌, ◌||◌, nat_lt, if◌then◌else◌, List, [], ◌∷◌, ◌++◌}
use Rattle.std.specs.Prelude.{length, map, Option, Some, None, Ok, Err, Bool, true, false, bytes_eq}
use Rattle.pl_base.specs.States.{DUPLICATE_ALIAS, INVALID_COLUMN_REFERENCE, SYNTAX_ERROR}
use Rattle.pl_base.specs.States.{TOO_MANY_COLUMNS, UNDEFINED_TABLE}
use Rattle.pl_catalog.specs.Objects.{table_named}
use Rattle.pl_catalog.specs.declared.object.Column.{Column}
use Rattle.pl_catalog.specs.declared.object.TableDef.{TableDef}
use Rattle.pl_resolved.specs.declared.expression.RExpr.{RExpr}
use Rattle.pl_resolved.specs.declared.expression.RExpr.TheVariants.{Place}
use Rattle.pl_resolved.specs.declared.query.Head.{Head}
use Rattle.pl_resolved.specs.declared.query.RJoin.{RJoin, roll-RJoin}
use Rattle.pl_resolved.specs.declared.query.RSource.{RSource}
use Rattle.pl_resolved.specs.declared.query.RSource.TheVariants.{Table, Query, Value}
use Rattle.pl_names.specs.Names.{Name, Around, Reach}
use Rattle.pl_names.specs.declared.scope.Source.{Source}
use Rattle.pl_names.specs.declared.sources.Items.{Items}
use Rattle.pl_names.specs.declared.sources.Sourced.{Sourced}
use Rattle.pl_typing.specs.Resolved.{Resolved, ◌>>=◌}
use Rattle.pl_typing.specs.Typing.{as_text_type}
use Rattle.pl_typing.specs.declared.typed.Typed.{Typed}

-- ---- items

abbrev pub join_of : RSource → Bool → Option RExpr → RJoin
join_of source is_left on =
    roll-RJoin (record { source = source; is_left = is_left; condition = on })

-- one item under its name, with the row that is its own
abbrev pub one_source : RSource → Name → List Head → ℕ → Sourced
one_source source name columns row = record {
  joins = join_of source false None ∷ [];
  sources = record { name = name; columns = columns; row = row } ∷ [];
}

abbrev pub name_or : Option Name → Name → Name
name_or None name = name
name_or (Some alias) name = alias

abbrev pub head_of_column : Column → Head
head_of_column c = record { name = c.name; ty = c.ty }

abbrev pub table_under : TableDef → Name → Option Name → ℕ → Sourced
table_under t x alias row =
    one_source (Table x) (name_or alias x) (map head_of_column t.columns) row

abbrev pub table_by : Option TableDef → Name → Option Name → ℕ → Resolved Sourced
table_by None x alias row = Err UNDEFINED_TABLE
table_by (Some t) x alias row = Ok (table_under t x alias row)

abbrev pub table_of : Name → Option Name → ℕ → Around → Resolved Sourced
table_of x alias row a = table_by (table_named x a.tables) x alias row

-- the query of this number
abbrev pub derived : ℕ → List Head → Option Name → ℕ → Sourced
derived number heads alias row = one_source (Query number) (name_or alias []) heads row

-- a function: one column, of the same name
abbrev pub valued_as : Typed → Name → ℕ → Sourced
valued_as x name row =
    one_source (Value x.tree) name (record { name = name; ty = as_text_type x.ty } ∷ []) row

abbrev pub valued : Typed → Name → Option Name → ℕ → Sourced
valued x name alias row = valued_as x (name_or alias name) row

-- ---- names of items

abbrev pub is_named : Name → List Source → Bool
is_named x [] = false
is_named x (s ∷ ss) = bytes_eq s.name x || is_named x ss

abbrev pub is_some_name : Name → Bool
is_some_name [] = false
is_some_name (b ∷ bs) = true

-- whether a name of the first stands among the second
abbrev pub share_name : List Source → List Source → Bool
share_name [] others = false
share_name (s ∷ ss) others = (is_some_name s.name && is_named s.name others) || share_name ss others

-- the items of both, of which no two have one name
unfoldable pub together : List Source → List Source → Resolved (List Source)
together done more = if share_name more done then Err DUPLICATE_ALIAS else Ok (done ++ more)

-- the item of this name
abbrev pub source_in : Name → List Source → Option Source
source_in q [] = None
source_in q (s ∷ ss) = if bytes_eq s.name q then Some s else source_in q ss

abbrev pub nearer_level : Option Reach → Option Reach → Option Reach
nearer_level None outer = outer
nearer_level inner outer = inner

abbrev pub level_named : Name → Reach → Option Reach
level_named q level = if is_named q level.sources then Some level else None

-- the nearest query that has an item of this name
abbrev pub level_within : Name → List Reach → Option Reach
level_within q [] = None
level_within q (level ∷ inner) = nearer_level (level_within q inner) (level_named q level)

-- ---- select lists

abbrev pub no_items : Items
no_items = record { values = []; heads = [] }

-- with one more item; a select list has at most 64
abbrev pub with_item : Items → RExpr → Head → Resolved Items
with_item items value head =
    if nat_lt (length items.heads) 64
    then Ok (record { values = items.values ++ value ∷ []; heads = items.heads ++ head ∷ [] })
    else Err TOO_MANY_COLUMNS

-- behind the items there are
abbrev pub columns_on : Items → ℕ → ℕ → List Head → Resolved Items
columns_on items row column [] = Ok items
columns_on items row column (h ∷ hs) =
    with_item items (Place row column) h >>= (λ items. columns_on items row (column + 1) hs)

-- `*`
abbrev pub all_columns : Items → List Source → Resolved Items
all_columns items [] = Ok items
all_columns items (s ∷ ss) =
    columns_on items s.row 0 s.columns >>= (λ items. all_columns items ss)

abbrev pub every_column : Items → List Source → Resolved Items
every_column items [] = Err SYNTAX_ERROR
every_column items (s ∷ ss) = all_columns items (s ∷ ss)

-- `q.*`
abbrev pub columns_by : Items → Option Source → Resolved Items
columns_by items None = Err UNDEFINED_TABLE
columns_by items (Some s) = columns_on items s.row 0 s.columns

abbrev pub columns_at : Items → Name → Option Reach → Resolved Items
columns_at items q None = Err UNDEFINED_TABLE
columns_at items q (Some level) =
    if level.is_barred then Err INVALID_COLUMN_REFERENCE
    else columns_by items (source_in q level.sources)

unfoldable pub columns_of : Items → Name → Around → Resolved Items
columns_of items q a = columns_at items q (level_within q a.levels)
