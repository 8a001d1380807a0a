-- The objects of a catalogue, in the order in which they were created, and how they are found.
use Rattle.std.specs.Prelude.{ℕ, Bool, false, ◌&&◌, if◌then◌else◌, nat_eq}
use Rattle.std.specs.Prelude.{List, [], ◌∷◌, Option, None, Some}
use Rattle.std.specs.List.{filter_map}
use Rattle.std.specs.Cmp.Lexicographic.{pointwise}
use Rattle.pl_catalog.specs.declared.object.Object.{Object}
use Rattle.pl_catalog.specs.declared.object.Object.TheVariants as object
use Rattle.pl_catalog.specs.declared.object.Routine.{Routine}
use Rattle.pl_catalog.specs.declared.object.TableDef.{TableDef}
use Rattle.pl_catalog.specs.declared.object.Which.{Which}
use Rattle.pl_catalog.specs.declared.object.Which.TheVariants as which

-- the objects, in the order in which they were created, and those before each change that can be
-- undone, the oldest first
pub record Catalogue : Type 0 where
  pub objects : List Object
  pub past : List (List Object)

-- whether two names are the same
abbrev pub is_same : List ℕ → List ℕ → Bool
is_same = pointwise nat_eq

abbrev pub name_of : Object → List ℕ
name_of (object.Table t) = t.name
name_of (object.Routine r) = r.name
name_of (object.Trigger t) = t.name

-- what an object is found by
abbrev pub which_of : Object → Which
which_of (object.Table t) = which.Table t.name
which_of (object.Routine r) = which.Routine r.name
which_of (object.Trigger t) = which.Trigger t.table t.name

abbrev pub is_called : Which → Object → Bool
is_called (which.Table name) (object.Table t) = is_same t.name name
is_called (which.Routine name) (object.Routine r) = is_same r.name name
is_called (which.Trigger table name) (object.Trigger t) =
    is_same t.table table && is_same t.name name
is_called w o = false

abbrev pub object_called : Which → List Object → Option Object
object_called w [] = None
object_called w (o ∷ os) = if is_called w o then Some o else object_called w os

-- the others, in their order
abbrev pub without : Which → List Object → List Object
without w [] = []
without w (o ∷ os) = if is_called w o then os else o ∷ without w os

-- this object in the place of the one that is found so
abbrev pub exchanged : Which → Object → List Object → List Object
exchanged w new [] = []
exchanged w new (o ∷ os) = if is_called w o then new ∷ os else o ∷ exchanged w new os

abbrev pub as_table : Object → Option TableDef
as_table (object.Table t) = Some t
as_table (object.Routine r) = None
as_table (object.Trigger t) = None

abbrev pub tables_in : List Object → List TableDef
tables_in os = filter_map as_table os

-- the table of this name
abbrev pub table_named : List ℕ → List TableDef → Option TableDef
table_named name [] = None
table_named name (t ∷ ts) = if is_same t.name name then Some t else table_named name ts

abbrev pub as_routine : Object → Option Routine
as_routine (object.Table t) = None
as_routine (object.Routine r) = Some r
as_routine (object.Trigger t) = None

abbrev pub routines_in : List Object → List Routine
routines_in os = filter_map as_routine os

-- the routine of this name
abbrev pub routine_named : List ℕ → List Routine → Option Routine
routine_named name [] = None
routine_named name (r ∷ rs) = if is_same r.name name then Some r else routine_named name rs
