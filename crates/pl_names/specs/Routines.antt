-- Calls of functions inside of expressions, those that are built in and those of the catalogue:
-- PostgreSQL manual, "Function Type Resolution".
use Rattle.std.specs.Prelude.{List, map, Option, Some, None, Ok, Err, Bool, true, false}
use Rattle.std.specs.Prelude.{if◌then◌else◌}
use Rattle.std.specs.List.{list_all}
use Rattle.pl_base.specs.States.{FEATURE_NOT_SUPPORTED, UNDEFINED_FUNCTION, WRONG_OBJECT_TYPE}
use Rattle.pl_base.specs.declared.types.Ty.{Ty}
use Rattle.pl_base.specs.declared.types.Ty.TheVariants.{Trigger}
use Rattle.pl_calc.specs.Functions.{function_named}
use Rattle.pl_calc.specs.declared.functions.Builtin.{Builtin}
use Rattle.pl_catalog.specs.Objects.{routine_named}
use Rattle.pl_catalog.specs.declared.object.Heading.{Heading}
use Rattle.pl_catalog.specs.declared.object.Routine.{Routine}
use Rattle.pl_names.specs.Names.{Name, Around}
use Rattle.pl_resolved.specs.declared.expression.RExpr.TheVariants.{Call}
use Rattle.pl_tree.specs.declared.command.Param.{Param}
use Rattle.pl_tree.specs.declared.command.ResultType.{ResultType}
use Rattle.pl_tree.specs.declared.command.ResultType.TheVariants as results
use Rattle.pl_tree.specs.declared.command.RoutineKind.{RoutineKind}
use Rattle.pl_tree.specs.declared.command.RoutineKind.TheVariants as kind
use Rattle.pl_tree.specs.declared.command.Way.{Way}
use Rattle.pl_tree.specs.declared.command.Way.TheVariants as way
use Rattle.pl_typing.specs.Calls.{fitted}
use Rattle.pl_typing.specs.Functions.{function_called}
use Rattle.pl_typing.specs.Resolved.{Resolved, ◌>>=◌}
use Rattle.pl_typing.specs.Typing.{headed}
use Rattle.pl_typing.specs.declared.calls.Arguments.{Arguments}
use Rattle.pl_typing.specs.declared.typed.Typed.{Typed}

abbrev pub types_of : List Param → List Ty
types_of params = map (λ (p : Param). p.ty) params

-- ---- what a call gives inside of an expression: one value

abbrev pub one_value : Ty → Resolved Ty
one_value Trigger = Err FEATURE_NOT_SUPPORTED
one_value ty = Ok ty

abbrev pub value_of : ResultType → Resolved Ty
value_of (results.One ty) = one_value ty
value_of results.Absent = Err FEATURE_NOT_SUPPORTED
value_of (results.Set ty) = Err FEATURE_NOT_SUPPORTED
value_of (results.Columns columns) = Err FEATURE_NOT_SUPPORTED

-- its type; a set and what a trigger gives are not supported
abbrev pub function_value : RoutineKind → ResultType → Resolved Ty
function_value kind.Function result = value_of result
function_value kind.Procedure result = Err WRONG_OBJECT_TYPE

-- ---- calls

abbrev pub given_to : Heading → Name → Arguments → Resolved Typed
given_to h name all =
    fitted all (types_of h.params) >>= (λ list. function_value h.kind h.result >>= (λ ty.
    Ok (headed (Call name list) ty name)))

abbrev pub goes_in : Way → Bool
goes_in way.In = true
goes_in way.Out = false
goes_in way.InOut = false

abbrev pub all_go_in : List Param → Bool
all_go_in params = list_all (λ (p : Param). goes_in p.way) params

-- parameters that go out are not supported
abbrev pub routine_called : Option Routine → Name → Arguments → Resolved Typed
routine_called None name all = Err UNDEFINED_FUNCTION
routine_called (Some r) name all =
    if all_go_in r.heading.params then given_to r.heading name all
    else Err FEATURE_NOT_SUPPORTED

-- a built-in function goes before a routine
abbrev pub called_by : Option Builtin → Name → Arguments → Around → Resolved Typed
called_by (Some f) name all a = function_called name all
called_by None name all a = routine_called (routine_named name a.routines) name all

unfoldable pub called : Name → Arguments → Around → Resolved Typed
called name all a = called_by (function_named name) name all a
