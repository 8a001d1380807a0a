-- What a definition does to a catalogue, or its first refusal: PostgreSQL manual, "CREATE TABLE",
-- "DROP TABLE".
use Rattle.std.specs.Prelude.{ℕ, Bool, ◌||◌, if◌then◌else◌, List, [], ◌∷◌, ◌++◌, length, map, is_some}
use Rattle.std.specs.Prelude.{Option, Some, None, Ok, Err}
use Rattle.std.specs.List.{flat_map, position}
use Rattle.pl_base.specs.States.{DUPLICATE_TABLE, FEATURE_NOT_SUPPORTED, UNDEFINED_TABLE}
use Rattle.pl_base.specs.declared.state.State.{State}
use Rattle.pl_base.specs.declared.types.Ty.{Ty}
use Rattle.pl_catalog.specs.Objects.{is_same, table_named, tables_in}
use Rattle.pl_catalog.specs.declared.object.Column.{Column}
use Rattle.pl_catalog.specs.declared.object.Object.{Object}
use Rattle.pl_catalog.specs.declared.object.Object.TheVariants.{Table}
use Rattle.pl_catalog.specs.declared.object.Rule.{Rule}
use Rattle.pl_catalog.specs.declared.object.RuleKind.{RuleKind}
use Rattle.pl_catalog.specs.declared.object.RuleKind.TheVariants as kind
use Rattle.pl_catalog.specs.declared.object.Which.TheVariants as which
use Rattle.pl_ddl.specs.Expressions.{check_tree, default_tree, elements_failure, row_scope}
use Rattle.pl_ddl.specs.Naming.{names_from}
use Rattle.pl_ddl.specs.Refusals.{is_among, names_of, table_refusal}
use Rattle.pl_ddl.specs.Written.{Name, NewColumn, NewRule, Asked, Check, Primary, Unique, Foreign}
use Rattle.pl_ddl.specs.Written.{any_behind, columns_in, default_in, rules_in, says_not_null}
use Rattle.pl_ddl.specs.declared.definition.Defined.{Defined}
use Rattle.pl_ddl.specs.declared.definition.Defined.TheVariants.{Add, Drop, Nothing}
use Rattle.pl_names.specs.declared.scope.Scope.{Scope}
use Rattle.pl_resolved.specs.declared.expression.RExpr.{RExpr}
use Rattle.pl_tree.specs.declared.command.Definition.{Definition}
use Rattle.pl_tree.specs.declared.command.Definition.TheVariants as definition
use Rattle.pl_tree.specs.declared.command.Element.{Element}
use Rattle.pl_tree.specs.declared.command.NewTable.{NewTable}
use Rattle.pl_tree.specs.declared.tree.Expr.{Expr}
use Rattle.pl_assigning.specs.pl_typing.Resolved.{Resolved, ◌>>=◌}

-- ---- what the table is

abbrev pub primary_columns : Asked → List Name
primary_columns (Primary columns) = columns
primary_columns asked = []

-- the columns of the primary key
abbrev pub key_of : List NewRule → List Name
key_of rules = flat_map (λ (r : NewRule). primary_columns r.asks) rules

-- DEFAULT, where there is one
abbrev pub default_of : Ty → Option Expr → Resolved (Option RExpr)
default_of ty None = Ok None
default_of ty (Some e) = default_tree ty e >>= (λ tree. Ok (Some tree))

-- a column of the primary key is NOT NULL too
abbrev pub column_with : List Name → NewColumn → Option RExpr → Column
column_with key c default = record {
  name = c.name;
  ty = c.ty;
  is_not_null = any_behind says_not_null c.rules || is_among c.name key;
  default = default;
}

abbrev pub made_column : List Name → NewColumn → Resolved Column
made_column key c =
    default_of c.ty (default_in c.rules) >>= (λ default. Ok (column_with key c default))

-- the columns, behind those that are done
abbrev pub columns_from : List Name → List Column → List NewColumn → Resolved (List Column)
columns_from key done [] = Ok done
columns_from key done (c ∷ cs) =
    made_column key c >>= (λ column.
    columns_from key (done ++ column ∷ []) cs)

-- a place that is known, or that behind the last
abbrev pub or_behind : Option ℕ → List Name → ℕ
or_behind (Some place) columns = place
or_behind None columns = length columns

-- a column by its place, from 0
abbrev pub place_of : List Name → Name → ℕ
place_of columns name =
    or_behind (position (λ column. is_same column name) columns) columns

abbrev pub places : List Name → List Name → List ℕ
places columns names = map (place_of columns) names

-- a foreign key is refused before
abbrev pub made_kind : Scope → List Name → Asked → Resolved RuleKind
made_kind scope columns (Check e) =
    check_tree scope e >>= (λ tree. Ok (kind.Check tree))
made_kind scope columns (Primary key) = Ok (kind.Primary (places columns key))
made_kind scope columns (Unique key) = Ok (kind.Unique (places columns key))
made_kind scope columns (Foreign key) = Err FEATURE_NOT_SUPPORTED

abbrev pub made_rule : Scope → List Name → NewRule → Name → Resolved Rule
made_rule scope columns r name =
    made_kind scope columns r.asks >>= (λ asked. Ok (record { name = name; kind = asked }))

-- the rules by their names, behind those that are done
abbrev pub rules_from : Scope → List Name → List Rule → List NewRule → List Name
    → Resolved (List Rule)
rules_from scope columns done [] names = Ok done
rules_from scope columns done (r ∷ rs) [] = Ok done
rules_from scope columns done (r ∷ rs) (n ∷ ns) =
    made_rule scope columns r n >>= (λ rule.
    rules_from scope columns (done ++ rule ∷ []) rs ns)

-- ---- CREATE TABLE

abbrev pub unless : {A : Type 0} → Option State → Resolved A → Resolved A
unless (Some state) go_on = Err state
unless None go_on = go_on

abbrev pub as_table : Name → List ℕ → List Column → List Rule → Defined
as_table name text columns rules = Add (Table (record {
  name = name;
  text = text;
  columns = columns;
  rules = rules;
}))

-- the table of these columns, of these names, and these rules
abbrev pub made_table : Name → List ℕ → List NewColumn → List Name → List NewRule
    → List Name → Resolved Defined
made_table name text columns column_names rules names =
    columns_from (key_of rules) [] columns >>= (λ made.
    rules_from (row_scope name columns) column_names [] rules names >>= (λ held.
    Ok (as_table name text made held)))

-- behind the names the first expression that fails, in reading order
abbrev pub named_table : Name → List ℕ → List Element → List NewColumn → List Name
    → List NewRule → Resolved Defined
named_table name text elements columns column_names rules =
    names_from name column_names [] rules >>= (λ names.
    unless (elements_failure (row_scope name columns) elements)
    (made_table name text columns column_names rules names))

abbrev pub table_by : List Object → Name → List ℕ → List Element → List NewColumn → List NewRule
    → Resolved Defined
table_by objects name text elements columns rules =
    unless (table_refusal (tables_in objects) columns (names_of columns) rules)
    (named_table name text elements columns (names_of columns) rules)

abbrev pub new_table : List Object → Name → List ℕ → List Element → Resolved Defined
new_table objects name text elements =
    table_by objects name text elements (columns_in elements) (rules_in elements)

-- 42P07, or no change and a notice of it
abbrev pub if_allowed : Bool → State → Resolved Defined
if_allowed is_allowed state = if is_allowed then Ok (Nothing state) else Err state

abbrev pub create_table : List Object → NewTable → List ℕ → Resolved Defined
create_table objects t text =
    if is_some (table_named t.name (tables_in objects))
    then if_allowed t.if_not_exists DUPLICATE_TABLE
    else new_table objects t.name text t.elements

-- ---- DROP TABLE

-- what needs the table is a matter of the catalogue
abbrev pub drop_table : List Object → Bool → Name → Resolved Defined
drop_table objects if_exists name =
    if is_some (table_named name (tables_in objects)) then Ok (Drop (which.Table name))
    else if_allowed if_exists UNDEFINED_TABLE

-- ---- both

abbrev pub defined : List Object → Definition → List ℕ → Resolved Defined
defined objects (definition.CreateTable t) text = create_table objects t text
defined objects (definition.CreateRoutine r) text = Err FEATURE_NOT_SUPPORTED
defined objects (definition.CreateTrigger t) text = Err FEATURE_NOT_SUPPORTED
defined objects (definition.DropTable if_exists name) text =
    drop_table objects if_exists name
defined objects (definition.DropRoutine kind if_exists name types) text = Err FEATURE_NOT_SUPPORTED
defined objects (definition.DropTrigger if_exists name table) text = Err FEATURE_NOT_SUPPORTED
