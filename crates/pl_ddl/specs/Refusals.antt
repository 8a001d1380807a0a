-- What is wrong with the columns and the keys of a new table, in the order in which it is looked
-- for: PostgreSQL manual, "CREATE TABLE".
use Rattle.std.specs.Prelude.{Bool, true, false, ◌&&◌, ◌||◌, not, if◌then◌else◌, nat_eq, nat_lt}
use Rattle.std.specs.Prelude.{List, [], ◌∷◌, length, map, Option, Some, None}
use Rattle.std.specs.List.{list_all, list_any}
use Rattle.std.specs.Option.{option_or}
use Rattle.pl_base.specs.States.{DUPLICATE_COLUMN, FEATURE_NOT_SUPPORTED, INVALID_TABLE_DEFINITION}
use Rattle.pl_base.specs.States.{SYNTAX_ERROR, TOO_MANY_COLUMNS, UNDEFINED_COLUMN, UNDEFINED_OBJECT}
use Rattle.pl_base.specs.declared.state.State.{State}
use Rattle.pl_base.specs.declared.types.Ty.{Ty}
use Rattle.pl_base.specs.declared.types.Ty.TheVariants as ty
use Rattle.pl_catalog.specs.Objects.{is_same, table_named}
use Rattle.pl_catalog.specs.declared.object.TableDef.{TableDef}
use Rattle.pl_tree.specs.declared.command.ColumnRule.{ColumnRule}
use Rattle.pl_ddl.specs.Written.{Name, NewColumn, NewRule, Asked, Check, Primary, Unique, Foreign}
use Rattle.pl_ddl.specs.Written.{any_behind, is_key, says_not_null, says_null}

-- ---- columns

-- a row type is no type of a column, and there is none without its table
abbrev pub row_refusal : Option TableDef → State
row_refusal (Some table) = FEATURE_NOT_SUPPORTED
row_refusal None = UNDEFINED_OBJECT

abbrev pub type_refusal : List TableDef → Ty → Option State
type_refusal tables ty.Int = None
type_refusal tables ty.Big = None
type_refusal tables ty.Text = None
type_refusal tables ty.Bool = None
type_refusal tables (ty.Row name) = Some (row_refusal (table_named name tables))
type_refusal tables other = Some INVALID_TABLE_DEFINITION

-- NULL beside NOT NULL, or beside PRIMARY KEY, which implies it
abbrev pub is_torn : List ColumnRule → Bool
is_torn rules =
    any_behind says_null rules && (any_behind says_not_null rules || any_behind is_key rules)

abbrev pub refusal_if : Bool → State → Option State
refusal_if b state = if b then Some state else None

abbrev pub column_refusal : List TableDef → NewColumn → Option State
column_refusal tables c =
    option_or (type_refusal tables c.ty) (refusal_if (is_torn c.rules) SYNTAX_ERROR)

-- that of the first column that is refused
abbrev pub columns_refusal : List TableDef → List NewColumn → Option State
columns_refusal tables [] = None
columns_refusal tables (c ∷ cs) = option_or (column_refusal tables c) (columns_refusal tables cs)

abbrev pub is_among : Name → List Name → Bool
is_among name names = list_any (λ n. is_same n name) names

-- one of the names stands twice
abbrev pub has_twin : List Name → Bool
has_twin [] = false
has_twin (n ∷ ns) = is_among n ns || has_twin ns

abbrev pub names_of : List NewColumn → List Name
names_of cs = map (λ (c : NewColumn). c.name) cs

-- ---- keys

abbrev pub is_primary : Asked → Bool
is_primary (Primary columns) = true
is_primary asked = false

abbrev pub is_foreign : Asked → Bool
is_foreign (Foreign columns) = true
is_foreign asked = false

abbrev pub has_primary : List NewRule → Bool
has_primary rules = list_any (λ (r : NewRule). is_primary r.asks) rules

-- more than one of the rules is a primary key
abbrev pub has_two_primary : List NewRule → Bool
has_two_primary [] = false
has_two_primary (r ∷ rs) = if is_primary r.asks then has_primary rs else has_two_primary rs

abbrev pub key_columns : Asked → List Name
key_columns (Check e) = []
key_columns (Primary columns) = columns
key_columns (Unique columns) = columns
key_columns (Foreign columns) = columns

-- a key has columns of the table, each of them once
abbrev pub key_refusal : List Name → List Name → Option State
key_refusal columns key =
    option_or (refusal_if (not (list_all (λ k. is_among k columns) key)) UNDEFINED_COLUMN)
    (refusal_if (has_twin key) DUPLICATE_COLUMN)

-- that of the first key that is refused
abbrev pub keys_refusal : List Name → List NewRule → Option State
keys_refusal columns [] = None
keys_refusal columns (r ∷ rs) =
    option_or (key_refusal columns (key_columns r.asks)) (keys_refusal columns rs)

abbrev pub any_foreign : List NewRule → Bool
any_foreign rules = list_any (λ (r : NewRule). is_foreign r.asks) rules

-- two primary keys, a key's columns, foreign keys
abbrev pub rules_refusal : List Name → List NewRule → Option State
rules_refusal columns rules =
    option_or (refusal_if (has_two_primary rules) INVALID_TABLE_DEFINITION)
    (option_or (keys_refusal columns rules)
    (refusal_if (any_foreign rules) FEATURE_NOT_SUPPORTED))

-- ---- all of them

-- in this order: no column at all, the columns' own, a name of two columns, too many columns, and
-- the rules'; the names are those of the columns
abbrev pub table_refusal : List TableDef → List NewColumn → List Name → List NewRule → Option State
table_refusal tables columns names rules =
    option_or (refusal_if (nat_eq (length names) 0) SYNTAX_ERROR)
    (option_or (columns_refusal tables columns)
    (option_or (refusal_if (has_twin names) DUPLICATE_COLUMN)
    (option_or (refusal_if (nat_lt 64 (length names)) TOO_MANY_COLUMNS)
    (rules_refusal names rules))))
