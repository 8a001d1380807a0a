-- A whole database as operations.
use Rattle.std.specs.Prelude.{ℕ, ◌++◌, List, [], ◌∷◌, Option, Some, None}
use Rattle.pl_base.specs.declared.operation.Op.{Op}
use Rattle.pl_base.specs.declared.operation.Op.TheVariants.{Define, Put, Next}
use Rattle.pl_catalog.specs.declared.object.Object.{Object}
use Rattle.pl_catalog.specs.declared.object.Object.TheVariants as object
use Rattle.pl_define.specs.Definition.{text_of}
use Rattle.pl_tables.specs.Named.{Named, content_named}
use Rattle.pl_tables.specs.Rows.{Content}
use Rattle.pl_undo.specs.Database.{Database}
use Rattle.pl_value.specs.Frames.{Row}

abbrev pub row_ops : List ℕ → List (ℕ × Row) → List Op
row_ops name [] = []
row_ops name (row ∷ rows) = Put name row.0 row.1 ∷ row_ops name rows

-- the rows by their ids, and the id that the next one gets
abbrev pub content_ops : List ℕ → Option Content → List Op
content_ops name None = []
content_ops name (Some c) = row_ops name c.rows ++ Next name c.next ∷ []

-- what an object holds
abbrev pub held_ops : Object → List Named → List Op
held_ops (object.Table t) ts = content_ops t.name (content_named t.name ts)
held_ops (object.Routine r) ts = []
held_ops (object.Trigger t) ts = []

-- the objects in the order in which they were made, each by its text with what it holds
abbrev pub whole_of : List Object → List Named → List Op
whole_of [] ts = []
whole_of (o ∷ os) ts = (Define (text_of o) ∷ held_ops o ts) ++ whole_of os ts

abbrev pub whole : Database → List Op
whole d = whole_of d.objects d.tables
