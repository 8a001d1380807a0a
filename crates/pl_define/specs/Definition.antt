-- What a definition does to a catalogue, or its first refusal: PostgreSQL manual, "CREATE TABLE",
-- "DROP TABLE", "CREATE FUNCTION", "DROP FUNCTION".
use Rattle.std.specs.Prelude.{ℕ, Bool, List, Option, Ok, Err}
use Rattle.pl_base.specs.States.{FEATURE_NOT_SUPPORTED}
use Rattle.pl_base.specs.declared.types.Ty.{Ty}
use Rattle.pl_bodies.specs.declared.statement.Body.{Body}
use Rattle.pl_routine_ddl.specs.pl_catalog.declared.object.Object.{Object}
use Rattle.pl_routine_ddl.specs.pl_catalog.declared.object.Object.TheVariants as object
use Rattle.pl_routine_ddl.specs.pl_catalog.declared.object.Which.TheVariants as which
use Rattle.pl_routine_ddl.specs.pl_ddl.Definition as tables
use Rattle.pl_routine_ddl.specs.pl_ddl.Definition.{unless}
use Rattle.pl_routine_ddl.specs.pl_ddl.Refusals.{refusal_if}
use Rattle.pl_routine_ddl.specs.pl_ddl.Written.{Name}
use Rattle.pl_routine_ddl.specs.pl_ddl.declared.definition.Defined.{Defined as TableDefined}
use Rattle.pl_routine_ddl.specs.pl_ddl.declared.definition.Defined.TheVariants as table
use Rattle.pl_define.specs.Bodies.{body_of}
use Rattle.pl_define.specs.declared.definition.Defined.{Defined}
use Rattle.pl_define.specs.declared.definition.Defined.TheVariants.{Add, Drop, Nothing, Replace}
use Rattle.pl_routine_ddl.specs.Routines as routines
use Rattle.pl_routine_ddl.specs.Routines.{form_refusal}
use Rattle.pl_routine_ddl.specs.declared.routines.RoutineDefined.{RoutineDefined}
use Rattle.pl_routine_ddl.specs.declared.routines.RoutineDefined.TheVariants as routine
use Rattle.pl_tree.specs.declared.command.Definition.{Definition}
use Rattle.pl_tree.specs.declared.command.Definition.TheVariants as definition
use Rattle.pl_tree.specs.declared.command.NewRoutine.{NewRoutine}
use Rattle.pl_tree.specs.declared.command.RoutineKind.{RoutineKind}
use Rattle.pl_routine_ddl.specs.pl_typing.Resolved.{Resolved, ◌>>=◌}
use Rattle.pl_waiting.specs.Waiting.{body_waits}

-- the text of the command that made it
abbrev pub text_of : Object → List ℕ
text_of (object.Table t) = t.text
text_of (object.Routine r) = r.text
text_of (object.Trigger t) = t.text

-- ---- tables

abbrev pub of_table : TableDefined → Defined
of_table (table.Add o) = Add o
of_table (table.Drop w) = Drop w
of_table (table.Nothing state) = Nothing state

abbrev pub of_tables : Resolved TableDefined → Resolved Defined
of_tables made = made >>= (λ d. Ok (of_table d))

-- ---- routines

abbrev pub of_routine : RoutineDefined → Defined
of_routine (routine.Add r) = Add (object.Routine r)
of_routine (routine.Replace r) = Replace (object.Routine r)
of_routine (routine.Drop name) = Drop (which.Routine name)
of_routine (routine.Nothing state) = Nothing state

abbrev pub of_routines : Resolved RoutineDefined → Resolved Defined
of_routines made = made >>= (λ d. Ok (of_routine d))

-- a body that has a form of a later part of the language is refused, before the catalogue is asked
abbrev pub with_body : List Object → NewRoutine → List ℕ → Body → Resolved Defined
with_body objects r text body =
    unless (refusal_if (body_waits body) FEATURE_NOT_SUPPORTED)
    (of_routines (routines.create_routine objects r text body))

-- what is wrong with its form comes before what is wrong with its body
abbrev pub create_routine : List Object → NewRoutine → List ℕ → Resolved Defined
create_routine objects r text =
    unless (form_refusal r) (body_of r >>= (λ body. with_body objects r text body))

abbrev pub drop_one : List Object → RoutineKind → Bool → Name → Option (List Ty) → Resolved Defined
drop_one objects kind if_exists name types =
    of_routines (routines.drop_routine objects kind if_exists name types)

-- ---- both

abbrev pub defined : List Object → Definition → List ℕ → Resolved Defined
defined objects (definition.CreateTable t) text =
    of_tables (tables.defined objects (definition.CreateTable t) text)
defined objects (definition.CreateRoutine r) text = create_routine objects r text
defined objects (definition.CreateTrigger t) text = Err FEATURE_NOT_SUPPORTED
defined objects (definition.DropTable if_exists name) text =
    of_tables (tables.defined objects (definition.DropTable if_exists name) text)
defined objects (definition.DropRoutine kind if_exists name types) text =
    drop_one objects kind if_exists name types
defined objects (definition.DropTrigger if_exists name owner) text = Err FEATURE_NOT_SUPPORTED
