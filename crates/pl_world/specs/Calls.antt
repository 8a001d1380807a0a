-- Calls of routines: PostgreSQL manual, "PL/pgSQL", "Returning from a Function", "Calling a
-- Procedure". A call inside of an expression runs its body where it is reached.
use Rattle.std.specs.Prelude.{ℕ, Bool, true, false, if◌then◌else◌, List, [], ◌∷◌, ◌++◌, Option}
use Rattle.std.specs.Prelude.{Some, None, ◌&&◌, ◌==◌, length, nat_lt}
use Rattle.pl_base.specs.States.{FUNCTION_EXECUTED_NO_RETURN_STATEMENT, INTERNAL_ERROR}
use Rattle.pl_base.specs.States.{STATEMENT_TOO_COMPLEX}
use Rattle.pl_base.specs.declared.fail.Fail.{Fail}
use Rattle.pl_base.specs.declared.types.Ty.{Ty}
use Rattle.pl_base.specs.declared.types.Ty.TheVariants as ty
use Rattle.pl_base.specs.declared.value.Value.{Value}
use Rattle.pl_base.specs.declared.value.Value.TheVariants.{Bool as Truth, Text}
use Rattle.pl_bodies.specs.declared.statement.Body.{Body}
use Rattle.pl_meaning.specs.pl_catalog.Objects.{routine_named, routines_in}
use Rattle.pl_meaning.specs.pl_catalog.declared.object.Routine.{Routine}
use Rattle.pl_meaning.specs.pl_names.Names.{Name}
use Rattle.pl_tree.specs.declared.command.Param.{Param}
use Rattle.pl_tree.specs.declared.command.ResultType.{ResultType}
use Rattle.pl_tree.specs.declared.command.ResultType.TheVariants as results
use Rattle.pl_tree.specs.declared.command.RoutineKind.{RoutineKind}
use Rattle.pl_tree.specs.declared.command.RoutineKind.TheVariants.{Function, Procedure}
use Rattle.pl_meaning.specs.pl_value.Meaning.{Calls as CallsOf}
use Rattle.pl_meaning.specs.pl_value.Reading.{Reading, got, fails}
use Rattle.pl_world.specs.Conversions.{as_type}
use Rattle.pl_world.specs.Errors.{Spot, raised}
use Rattle.pl_world.specs.Running.{Runner, body, spot_of}
use Rattle.pl_world.specs.Variables.{entering}
use Rattle.pl_world.specs.World.{Event, Frame, World, Ran, made, and_then, ends}
use Rattle.pl_world.specs.declared.outcome.Outcome.{Outcome}
use Rattle.pl_world.specs.declared.outcome.Outcome.TheVariants as outcome

-- ---- what is called

-- without a result it may end without RETURN
pub record Callee : Type 0 where
  pub routine : Name
  pub is_command : Bool
  pub params : List Param
  pub result : Option Ty
  pub body : Body

abbrev pub unless_void : Ty → Option Ty
unless_void ty.Void = None
unless_void t = Some t

-- the type of what RETURN gives
abbrev pub result_type : ResultType → Option Ty
result_type results.Absent = None
result_type (results.One t) = unless_void t
result_type (results.Set t) = None
result_type (results.Columns columns) = None

-- a routine of the catalogue
abbrev pub callee_of : Bool → Routine → Callee
callee_of is_command r = record {
  routine = r.name;
  is_command = is_command;
  params = r.heading.params;
  result = result_type r.heading.result;
  body = r.body;
}

-- a DO
abbrev pub nameless : Body → Callee
nameless b = record { routine = []; is_command = true; params = []; result = None; body = b }

-- ---- a call

-- the parameters have the values of the arguments, and FOUND is false
abbrev pub frame_for : Callee → List Value → Frame
frame_for c values = record {
  routine = c.routine;
  is_command = c.is_command;
  static = entering c.routine c.params c.result;
  values = values ++ Truth false ∷ [];
  row_count = 0;
  handled = [];
}

unfoldable pub entered : Callee → List Value → World → World
entered c values w = record w { frame = frame_for c values; below = w.frame ∷ w.below }

abbrev pub popped_by : List Frame → World → World
popped_by [] w = w
popped_by (f ∷ fs) w = record w { frame = f; below = fs }

-- the newest call is gone
unfoldable pub popped : World → World
popped w = popped_by w.below w

-- what a routine without a result gives: it prints as nothing, and isn't null
abbrev pub void : Value
void = Text []

-- What the body gives once it has ended: the value of RETURN as one of the result's type, so that
-- no handler of the body sees that it can't be. Where a value is due there has to be a RETURN.
abbrev pub given : Option Ty → Outcome → Spot → World → Ran Outcome
given result (outcome.Fail f) at w = ends (outcome.Fail f) w
given None o at w = ends (outcome.Return void) w
given (Some t) (outcome.Return v) at w = as_type t v at w (λ v w. ends (outcome.Return v) w)
given (Some t) o at w = raised FUNCTION_EXECUTED_NO_RETURN_STATEMENT at w

-- a value or an error, still in the call, which then is gone
unfoldable pub left : Callee → Outcome → World → Ran Outcome
left c o w = and_then (given c.result o (spot_of (body c.body)) w) (λ o w. ends o (popped w))

abbrev pub most_calls : ℕ
most_calls = 64

-- the body is that of the moment of the call, whatever becomes of the routine while it runs
unfoldable pub called : Runner → Callee → List Value → Spot → World → Ran Outcome
called r c values at w =
    if nat_lt (length w.below) most_calls
    then and_then (r.run (body c.body) (entered c values w)) (left c)
    else raised STATEMENT_TOO_COMPLEX at w

-- ---- a call by name

-- a procedure is called by CALL, which is a command, and a function inside of an expression
abbrev pub is_called_by : (is_command : Bool) → RoutineKind → Bool
is_called_by true Procedure = true
is_called_by true Function = false
is_called_by false Procedure = false
is_called_by false Function = true

-- it can be called so, with so many values
abbrev pub can_be_called : Bool → List Value → Routine → Bool
can_be_called is_command values r =
    is_called_by is_command r.heading.kind && (length values == length r.heading.params)

-- The arguments were resolved for a routine of this name. If there is none now that can be called
-- with them, that is an internal error.
abbrev pub called_if : Option Routine → Bool → Runner → List Value → Spot → World → Ran Outcome
called_if None is_command r values at w = raised INTERNAL_ERROR at w
called_if (Some routine) is_command r values at w =
    if can_be_called is_command values routine
    then called r (callee_of is_command routine) values at w
    else raised INTERNAL_ERROR at w

-- the routine is the one that has the name when its arguments are read
abbrev pub called_by_name : Runner → Spot → Bool → Name → List Value → World → Ran Outcome
called_by_name r at is_command name values w =
    called_if (routine_named name (routines_in w.database.objects)) is_command r values at w

-- ---- a call inside of an expression

-- a world within an evaluation: what happened since it began, and the error of a call that failed
pub record Within : Type 0 where
  pub world : World
  pub told : List Event
  pub failure : Option Fail

abbrev pub within : World → List Event → Option Fail → Within
within w told failure = record { world = w; told = told; failure = failure }

-- a call ends with a value or an error
abbrev pub answered : List Event → Ran Outcome → Reading Within Value
answered told (made w (outcome.Return v) es) = got v (within w (told ++ es) None)
answered told (made w (outcome.Fail f) es) = fails f.state (within w (told ++ es) (Some f))
answered told (made w o es) = got void (within w (told ++ es) None)

-- calls from the statement at this spot
abbrev pub calls : Runner → Spot → CallsOf Within
calls r at name values x = answered x.told (called_by_name r at false name values x.world)
