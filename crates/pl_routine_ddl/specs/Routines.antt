-- What CREATE FUNCTION and DROP FUNCTION do, or their first refusal: PostgreSQL manual, "CREATE
-- FUNCTION", "DROP FUNCTION". A function of today takes and gives single values, whose types are
-- those of columns; the result may be void.
use Rattle.std.specs.Prelude.{ℕ, Bool, true, false, ◌&&◌, ◌||◌, not, if◌then◌else◌, nat_lt, codes}
use Rattle.std.specs.Prelude.{bytes_eq, is_none, is_some, List, [], ◌∷◌, length}
use Rattle.std.specs.Prelude.{Option, Some, None, Ok, Err}
use Rattle.std.specs.List.{list_any}
use Rattle.std.specs.Option.{option_or}
use Rattle.pl_base.specs.States.{DUPLICATE_FUNCTION, FEATURE_NOT_SUPPORTED}
use Rattle.pl_base.specs.States.{INVALID_FUNCTION_DEFINITION, TOO_MANY_ARGUMENTS}
use Rattle.pl_base.specs.States.{UNDEFINED_FUNCTION, WRONG_OBJECT_TYPE}
use Rattle.pl_base.specs.declared.state.State.{State}
use Rattle.pl_base.specs.declared.types.Ty.{Ty}
use Rattle.pl_base.specs.declared.types.Ty.TheVariants as ty
use Rattle.pl_bodies.specs.declared.statement.Body.{Body}
use Rattle.pl_calc.specs.Functions.{function_named}
use Rattle.pl_ddl.specs.pl_catalog.Objects.{is_same, routine_named, routines_in, table_named, tables_in}
use Rattle.pl_ddl.specs.pl_catalog.declared.object.Heading.{Heading}
use Rattle.pl_ddl.specs.pl_catalog.declared.object.Object.{Object}
use Rattle.pl_ddl.specs.pl_catalog.declared.object.Routine.{Routine}
use Rattle.pl_ddl.specs.pl_catalog.declared.object.TableDef.{TableDef}
use Rattle.pl_ddl.specs.Definition.{unless}
use Rattle.pl_ddl.specs.Refusals.{refusal_if, row_refusal}
use Rattle.pl_ddl.specs.Written.{Name}
use Rattle.pl_grouping.specs.Words.{same_type, same_types}
use Rattle.pl_ddl.specs.pl_names.Routines.{all_go_in, types_of}
use Rattle.pl_routine_ddl.specs.declared.routines.RoutineDefined.{RoutineDefined}
use Rattle.pl_routine_ddl.specs.declared.routines.RoutineDefined.TheVariants.{Add, Drop, Nothing, Replace}
use Rattle.pl_tree.specs.declared.command.NewRoutine.{NewRoutine}
use Rattle.pl_tree.specs.declared.command.Param.{Param}
use Rattle.pl_tree.specs.declared.command.ResultType.{ResultType}
use Rattle.pl_tree.specs.declared.command.ResultType.TheVariants as results
use Rattle.pl_tree.specs.declared.command.RoutineKind.{RoutineKind}
use Rattle.pl_tree.specs.declared.command.RoutineKind.TheVariants.{Function, Procedure}
use Rattle.pl_ddl.specs.pl_typing.Aggregates.{aggregate_named}
use Rattle.pl_ddl.specs.pl_typing.Resolved.{Resolved}

-- ---- what is looked at before the body

abbrev pub is_procedure : RoutineKind → Bool
is_procedure Procedure = true
is_procedure Function = false

abbrev pub is_absent : ResultType → Bool
is_absent results.Absent = true
is_absent result = false

-- a function without RETURNS gives what goes out by its parameters
abbrev pub gives_nothing : NewRoutine → Bool
gives_nothing r = not (is_procedure r.kind) && is_absent r.result && all_go_in r.params

-- LANGUAGE, AS or what it gives isn't said
abbrev pub lacks_a_part : NewRoutine → Bool
lacks_a_part r = is_none r.language || is_none r.body || gives_nothing r

abbrev pub is_plpgsql : Option (List ℕ) → Bool
is_plpgsql (Some language) = bytes_eq language (codes "plpgsql")
is_plpgsql None = false

abbrev pub is_one : ResultType → Bool
is_one (results.One t) = true
is_one result = false

-- procedures, parameters that go out, and sets
abbrev pub form_waits : NewRoutine → Bool
form_waits r = is_procedure r.kind || not (all_go_in r.params) || not (is_one r.result)

abbrev pub form_refusal : NewRoutine → Option State
form_refusal r =
    option_or (refusal_if (lacks_a_part r) INVALID_FUNCTION_DEFINITION)
    (refusal_if (not (is_plpgsql r.language) || form_waits r) FEATURE_NOT_SUPPORTED)

-- ---- the name

-- the functions that are there without a definition, and the one that checks bodies
abbrev pub is_built_in : Name → Bool
is_built_in name =
    is_some (function_named name) || is_some (aggregate_named name)
    || bytes_eq name (codes "plpgsql_check_function")

abbrev pub is_taken : Option Routine → NewRoutine → Bool
is_taken old r = is_built_in r.name || is_some old && not r.or_replace

-- ---- the types

-- rows, and types that no variable has, are not supported
abbrev pub param_refusal : List TableDef → Ty → Option State
param_refusal tables ty.Int = None
param_refusal tables ty.Big = None
param_refusal tables ty.Text = None
param_refusal tables ty.Bool = None
param_refusal tables (ty.Row name) = Some (row_refusal (table_named name tables))
param_refusal tables other = Some FEATURE_NOT_SUPPORTED

-- that of the first parameter that is refused
abbrev pub params_refusal : List TableDef → List Param → Option State
params_refusal tables [] = None
params_refusal tables (p ∷ ps) =
    option_or (param_refusal tables p.ty) (params_refusal tables ps)

abbrev pub given_refusal : List TableDef → Ty → Option State
given_refusal tables ty.Void = None
given_refusal tables t = param_refusal tables t

abbrev pub result_refusal : List TableDef → ResultType → Option State
result_refusal tables (results.One t) = given_refusal tables t
result_refusal tables result = None

-- ---- the parameters' names and number

abbrev pub has_name : Name → Option Name → Bool
has_name name None = false
has_name name (Some other) = is_same name other

abbrev pub is_named : Name → Param → Bool
is_named name p = has_name name p.name

abbrev pub any_is_named : Name → List Param → Bool
any_is_named name ps = list_any (is_named name) ps

abbrev pub is_named_again : Option Name → List Param → Bool
is_named_again None ps = false
is_named_again (Some name) ps = any_is_named name ps

abbrev pub two_of_a_name : List Param → Bool
two_of_a_name [] = false
two_of_a_name (p ∷ ps) = is_named_again p.name ps || two_of_a_name ps

-- ---- OR REPLACE

abbrev pub is_same_kind : RoutineKind → RoutineKind → Bool
is_same_kind Function Function = true
is_same_kind Procedure Procedure = true
is_same_kind kind other = false

-- a name stays, and one may be given where there was none
abbrev pub keeps_name : Option Name → Option Name → Bool
keeps_name None new = true
keeps_name (Some name) None = false
keeps_name (Some name) (Some other) = is_same name other

abbrev pub keeps_params : List Param → List Param → Bool
keeps_params [] [] = true
keeps_params [] (p ∷ ps) = false
keeps_params (o ∷ os) [] = false
keeps_params (o ∷ os) (p ∷ ps) =
    same_type o.ty p.ty && keeps_name o.name p.name && keeps_params os ps

abbrev pub keeps_result : ResultType → ResultType → Bool
keeps_result (results.One t) (results.One u) = same_type t u
keeps_result old new = false

-- a routine is replaced by one of its kind that is called as it was
abbrev pub replacing_refusal : Heading → NewRoutine → Option State
replacing_refusal old r =
    option_or (refusal_if (not (is_same_kind old.kind r.kind)) WRONG_OBJECT_TYPE)
    (refusal_if (not (keeps_params old.params r.params && keeps_result old.result r.result))
    INVALID_FUNCTION_DEFINITION)

abbrev pub replaced_refusal : Option Routine → NewRoutine → Option State
replaced_refusal (Some old) r = replacing_refusal old.heading r
replaced_refusal None r = None

-- ---- CREATE FUNCTION

-- the name, the types of the parameters in order and of the result, a name of two parameters, too
-- many of them, and what stays of the routine that is replaced
abbrev pub routine_refusal : Option Routine → List TableDef → NewRoutine → Option State
routine_refusal old tables r =
    option_or (refusal_if (is_taken old r) DUPLICATE_FUNCTION)
    (option_or (params_refusal tables r.params)
    (option_or (result_refusal tables r.result)
    (option_or (refusal_if (two_of_a_name r.params) INVALID_FUNCTION_DEFINITION)
    (option_or (refusal_if (nat_lt 64 (length r.params)) TOO_MANY_ARGUMENTS)
    (replaced_refusal old r)))))

abbrev pub as_routine : NewRoutine → List ℕ → Body → Routine
as_routine r text body = record {
  name = r.name;
  text = text;
  heading = record { kind = r.kind; params = r.params; result = r.result };
  body = body;
}

-- in the place of the one that is there
abbrev pub placed : Option Routine → Routine → RoutineDefined
placed (Some old) made = Replace made
placed None made = Add made

abbrev pub new_routine : Option Routine → List TableDef → NewRoutine → List ℕ → Body
    → Resolved RoutineDefined
new_routine old tables r text body =
    unless (routine_refusal old tables r) (Ok (placed old (as_routine r text body)))

-- the body is read before; what `form_refusal` refuses and the failures of the body come first
abbrev pub create_routine : List Object → NewRoutine → List ℕ → Body → Resolved RoutineDefined
create_routine objects r text body =
    new_routine (routine_named r.name (routines_in objects)) (tables_in objects) r text body

-- ---- DROP FUNCTION

-- refused, or by IF EXISTS no change and a notice of it
abbrev pub if_allowed : Bool → State → Resolved RoutineDefined
if_allowed is_allowed state = if is_allowed then Ok (Nothing state) else Err state

-- without types it is the one of its name
abbrev pub takes : Routine → Option (List Ty) → Bool
takes r None = true
takes r (Some types) = same_types types (types_of r.heading.params)

abbrev pub dropped : Option Routine → RoutineKind → Bool → Name → Option (List Ty)
    → Resolved RoutineDefined
dropped None kind if_exists name types = if_allowed if_exists UNDEFINED_FUNCTION
dropped (Some r) kind if_exists name types =
    if not (takes r types) then if_allowed if_exists UNDEFINED_FUNCTION
    else (if is_same_kind r.heading.kind kind then Ok (Drop name)
    else Err WRONG_OBJECT_TYPE)

-- what needs the routine is a matter of the catalogue
abbrev pub drop_routine : List Object → RoutineKind → Bool → Name → Option (List Ty)
    → Resolved RoutineDefined
drop_routine objects kind if_exists name types =
    dropped (routine_named name (routines_in objects)) kind if_exists name types
