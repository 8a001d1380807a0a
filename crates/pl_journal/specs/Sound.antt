-- What is true of every database that operations lead to: promised of each row, of the rows of a
-- table together, and of the objects.
use Rattle.std.specs.Prelude.{◌≡◌, ◌≤◌, ◌+◌, ◌^◌, ◌++◌, ℕ, length, List, [], ◌∷◌}
use Rattle.std.specs.Prelude.{Some, None, Ok, true, false}
use Rattle.pl_catalog.specs.Objects.{object_called, table_named, tables_in, which_of}
use Rattle.pl_catalog.specs.declared.object.Object.{Object}
use Rattle.pl_catalog.specs.declared.object.TableDef.{TableDef}
use Rattle.pl_define.specs.Definition.{defined, text_of}
use Rattle.pl_define.specs.declared.definition.Defined.TheVariants.{Add}
use Rattle.pl_journal.specs.Definitions.{is_stored_object}
use Rattle.pl_journal.specs.Writing.{is_taken_beside}
use Rattle.pl_define.specs.pl_reading.Computed.{definition_in}
use Rattle.pl_rules.specs.Rules.{holds}
use Rattle.pl_tables.specs.Named.{content_named}
use Rattle.pl_tables.specs.Rows.{Content, row_at}
use Rattle.pl_tree.specs.declared.command.Definition.{Definition}
use Rattle.pl_undo.specs.Database.{Database, keys_in, IsWhole}
use Rattle.pl_value.specs.Frames.{Row}

-- ---- rows

-- the rules hold of each row; the ids rise, from the first number on, and are below the second
abbrev pub AreRows : TableDef → ℕ → List (ℕ × Row) → ℕ → Type 0
AreRows table low [] high = low ≤ high
AreRows table low (row ∷ rows) high =
    (low ≤ row.0) × (holds table row.1 ≡ true) × AreRows table (row.0 + 1) rows high

-- no two rows have a key that is the same
abbrev pub AreApart : Content → Type 0
AreApart c = (id : ℕ) (row : Row) → row_at id c.rows ≡ Some row → is_taken_beside id row c ≡ false

pub record IsSoundTable (table : TableDef) (c : Content) : Type 0 where
  pub keys : c.keys ≡ keys_in table.rules
  pub rows : AreRows table 1 c.rows c.next
  pub few : length c.rows ≤ 1000000
  pub next : c.next ≤ 2 ^ 63
  pub apart : AreApart c

-- ---- objects

-- the object is what its text makes, beside some others
pub record IsMade (o : Object) : Type 0 where
  pub definition : Definition
  pub others : List Object
  pub read : definition_in (text_of o) ≡ Some definition
  pub made : defined others definition (text_of o) ≡ Ok (Add o)
  pub stored : is_stored_object o ≡ true

-- each is made so, and none before it has its name
abbrev pub AreMade : (before : List Object) → List Object → Type 0
AreMade before [] = Unit {0}
AreMade before (o ∷ os) =
    IsMade o × (object_called (which_of o) before ≡ None) × AreMade (before ++ o ∷ []) os

-- ---- both

pub record IsSound (d : Database) : Type 0 where
  pub whole : IsWhole d
  pub objects : AreMade [] d.objects
  pub tables : (name : List ℕ) (table : TableDef) (c : Content)
      → table_named name (tables_in d.objects) ≡ Some table
      → content_named name d.tables ≡ Some c → IsSoundTable table c
