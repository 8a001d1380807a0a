-- The routine of a command, as the code holds it, and the arguments with which it is called.
use Rattle.std.specs.Prelude.{◌≡◌, true, Result, Ok, Err}
use Rattle.pl_bodies.specs.declared.statement.Body.{Body}
use Rattle.pl_asking.specs.pl_calling.Called.{IsCallee}
use Rattle.pl_asking.specs.pl_calling.declared.callee.Found.{Found}
use Rattle.pl_control.specs.declared.arguments.Procedure.{Procedure}
use Rattle.pl_control.specs.declared.callees.Called.{Called}
use Rattle.pl_typing.specs.Resolved.{Resolved}
use Rattle.pl_typing.specs.declared.fail.ScopeFail.{ScopeFail}
use Rattle.pl_typing.specs.declared.fail.ScopeFail.TheVariants.{State, Memory}
use Rattle.pl_engine.specs.pl_world.Calls.{Callee}
use Rattle.pl_engine.specs.pl_world.Resolving.{Calling}

-- what is called, with its body
abbrev pub found_of : Called → Body → Found
found_of called b = record {
  routine = called.routine;
  declared = called.declared;
  result = called.result;
  body = b;
}

-- it is this routine, called by a command
abbrev pub IsCalled : Called → Body → Callee → Type 0
IsCalled called b c = IsCallee true (found_of called b) c

-- what is called so, as it was resolved
pub record Names (p : Procedure) (c : Calling) : Type 0 where
  pub name : p.name ≡ c.routine.name
  pub arguments : p.arguments ≡ c.arguments

-- it was resolved so, or why it could not be
abbrev pub ResolvesTo : Result Procedure ScopeFail → Resolved Calling → Type 0
ResolvesTo (Ok p) meaning = (c : Calling) × (meaning ≡ Ok c) × Names p c
ResolvesTo (Err (State state)) meaning = meaning ≡ Err state
ResolvesTo (Err Memory) meaning = Unit {0}
