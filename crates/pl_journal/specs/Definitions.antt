-- What a definition does to a database: PostgreSQL manual, "CREATE TABLE", "DROP TABLE", "CREATE
-- FUNCTION", "DROP FUNCTION".
use Rattle.std.specs.Prelude.{Bool, true, ◌&&◌, if◌then◌else◌, List, ℕ, length, nat_lt}
use Rattle.std.specs.Prelude.{Option, Some, None, Ok, Err}
use Rattle.pl_base.specs.States.{DEPENDENT_OBJECTS_STILL_EXIST, FEATURE_NOT_SUPPORTED}
use Rattle.pl_base.specs.declared.state.State.{State}
use Rattle.pl_catalog.specs.Dependents.{first_dependent}
use Rattle.pl_catalog.specs.declared.object.Object.{Object}
use Rattle.pl_catalog.specs.declared.object.Object.TheVariants as object
use Rattle.pl_codec.specs.Spelling.{is_table_name}
use Rattle.pl_define.specs.Definition.{defined}
use Rattle.pl_define.specs.declared.definition.Defined.{Defined}
use Rattle.pl_define.specs.declared.definition.Defined.TheVariants.{Add, Drop, Nothing, Replace}
use Rattle.pl_tree.specs.declared.command.Definition.{Definition}
use Rattle.pl_define.specs.pl_typing.Resolved.{Resolved}
use Rattle.pl_undo.specs.Database.{Database, with_exchanged, with_object, without_object}

-- a store can hold the table's name, and how many values a row has
abbrev pub is_stored_object : Object → Bool
is_stored_object (object.Table t) = is_table_name t.name && nat_lt (length t.columns) 256
is_stored_object (object.Routine r) = true
is_stored_object (object.Trigger t) = true

-- the database behind a definition, and the SQLSTATE of a notice where it stays as it is
pub record Behind : Type 0 where
  pub database : Database
  pub notice : Option State

abbrev pub behind : Database → Option State → Behind
behind d notice = record { database = d; notice = notice }

-- an object that others need isn't dropped
abbrev pub unless_needed : Option (List ℕ) → Database → Resolved Behind
unless_needed (Some dependent) d = Err DEPENDENT_OBJECTS_STILL_EXIST
unless_needed None d = Ok (behind d None)

abbrev pub carried_out : Resolved Defined → Database → Resolved Behind
carried_out (Err state) d = Err state
carried_out (Ok (Nothing state)) d = Ok (behind d (Some state))
carried_out (Ok (Add o)) d =
    if is_stored_object o then Ok (behind (with_object o d) None) else Err FEATURE_NOT_SUPPORTED
carried_out (Ok (Replace o)) d = Ok (behind (with_exchanged o d) None)
carried_out (Ok (Drop w)) d = unless_needed (first_dependent w d.objects) (without_object w d)

-- the definition of this text, or its first refusal
abbrev pub redefined : Definition → List ℕ → Database → Resolved Behind
redefined definition text d = carried_out (defined d.objects definition text) d
