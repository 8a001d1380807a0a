-- What the code adds to the tables, once the object of a CREATE is among the others.
use Rattle.std.specs.Prelude.{◌++◌, ℕ, List, [], ◌∷◌, Option, None, Some}
use Rattle.pl_catalog.specs.declared.object.Object.{Object}
use Rattle.pl_catalog.specs.declared.object.Rule.{Rule}
use Rattle.pl_catalog.specs.declared.object.TableDef.{TableDef}
use Rattle.pl_catalog.specs.declared.object.Which.{Which}
use Rattle.pl_catalog.specs.declared.object.Which.TheVariants as which
use Rattle.pl_catalog.specs.Objects.{table_named, tables_in}
use Rattle.pl_tables.specs.Named.{named, Named}
use Rattle.pl_tables.specs.Rows.{no_rows}
use Rattle.pl_undo.specs.Database.{keys_in}

abbrev pub rules_in : Option TableDef → List Rule
rules_in None = []
rules_in (Some t) = t.rules

-- the columns of the keys of the table of this name
abbrev pub keys_named : List ℕ → List Object → List (List ℕ)
keys_named name os = keys_in (rules_in (table_named name (tables_in os)))

abbrev pub with_content_of : Which → List Object → List Named → List Named
with_content_of (which.Table name) os ts = ts ++ named name (no_rows (keys_named name os)) ∷ []
with_content_of (which.Routine name) os ts = ts
with_content_of (which.Trigger table name) os ts = ts
