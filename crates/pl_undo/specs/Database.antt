-- A database, and what a change of its objects does to it.
use Rattle.std.specs.Prelude.{◌≡◌, ◌++◌, ℕ, List, [], ◌∷◌, Option, None, Some, filter_map, map}
use Rattle.pl_catalog.specs.declared.object.Object.{Object}
use Rattle.pl_catalog.specs.declared.object.Object.TheVariants as object
use Rattle.pl_catalog.specs.declared.object.Rule.{Rule}
use Rattle.pl_catalog.specs.declared.object.RuleKind.{RuleKind}
use Rattle.pl_catalog.specs.declared.object.RuleKind.TheVariants as kind
use Rattle.pl_catalog.specs.declared.object.TableDef.{TableDef}
use Rattle.pl_catalog.specs.declared.object.Which.{Which}
use Rattle.pl_catalog.specs.declared.object.Which.TheVariants as which
use Rattle.pl_catalog.specs.Objects.{exchanged, tables_in, which_of, without}
use Rattle.pl_tables.specs.Named.{named, on_table, without_table, Named}
use Rattle.pl_tables.specs.Rows.{no_rows, Content}

-- the objects in the order in which they were created, and what the tables hold
pub record Database : Type 0 where
  pub objects : List Object
  pub tables : List Named

abbrev pub database : List Object → List Named → Database
database objects tables = record { objects = objects; tables = tables }

-- the columns of the key that a rule asks for
abbrev pub key_columns : RuleKind → Option (List ℕ)
key_columns (kind.Primary columns) = Some columns
key_columns (kind.Unique columns) = Some columns
key_columns (kind.Check condition) = None
key_columns (kind.Foreign columns table targets) = None

-- the columns of each key, in the order of the rules
abbrev pub keys_in : List Rule → List (List ℕ)
keys_in rules = filter_map (λ (r : Rule). key_columns r.kind) rules

-- a new table has no rows
abbrev pub with_content : Object → List Named → List Named
with_content (object.Table t) ts = ts ++ named t.name (no_rows (keys_in t.rules)) ∷ []
with_content (object.Routine r) ts = ts
with_content (object.Trigger t) ts = ts

abbrev pub with_object : Object → Database → Database
with_object o d = database (d.objects ++ o ∷ []) (with_content o d.tables)

-- a table goes with its rows
abbrev pub without_content : Which → List Named → List Named
without_content (which.Table name) ts = without_table name ts
without_content (which.Routine name) ts = ts
without_content (which.Trigger table name) ts = ts

abbrev pub without_object : Which → Database → Database
without_object w d = database (without w d.objects) (without_content w d.tables)

-- the object takes the place of the one of its kind and name; what a table holds stays
abbrev pub with_exchanged : Object → Database → Database
with_exchanged o d = database (exchanged (which_of o) o d.objects) d.tables

-- the rows of the table of this name are changed so, and all else stays
abbrev pub on_rows : List ℕ → (Content → Content) → Database → Database
on_rows name change d = database d.objects (on_table name change d.tables)

abbrev pub table_names : List Object → List (List ℕ)
table_names os = map (λ (t : TableDef). t.name) (tables_in os)

abbrev pub names_of : List Named → List (List ℕ)
names_of ts = map (λ (t : Named). t.name) ts

-- the tables are those of the catalogue
abbrev pub IsWhole : Database → Type 0
IsWhole d = table_names d.objects ≡ names_of d.tables
