-- COMMIT, ROLLBACK, CALL and DO in bodies: PostgreSQL manual, "PL/pgSQL", "Transaction Management",
-- "Calling a Procedure"; "DO".
use Rattle.std.specs.Prelude.{ℕ, Bool, true, not, ◌&&◌, ◌==◌, if◌then◌else◌, List, []}
use Rattle.std.specs.Prelude.{◌∷◌, map}
use Rattle.std.specs.Prelude.{Option, Some, None, Ok, Err, bytes_eq, codes}
use Rattle.std.specs.List.{list_all}
use Rattle.pl_base.specs.States.{FEATURE_NOT_SUPPORTED, INVALID_TRANSACTION_TERMINATION}
use Rattle.pl_base.specs.declared.fail.Fail.{Fail}
use Rattle.pl_base.specs.declared.fail.Message.TheVariants.{Standard}
use Rattle.pl_base.specs.declared.fail.Origin.TheVariants.{Engine}
use Rattle.pl_base.specs.declared.state.State.{State}
use Rattle.pl_base.specs.declared.value.Value.{Value}
use Rattle.pl_bodies.specs.declared.statement.Body.{Body}
use Rattle.pl_meaning.specs.pl_names.Names.{Name}
use Rattle.pl_resolved.specs.declared.expression.RExpr.{RExpr}
use Rattle.pl_meaning.specs.pl_typing.Resolved.{Resolved}
use Rattle.pl_meaning.specs.pl_value.Meaning.{value, values}
use Rattle.pl_meaning.specs.pl_value.Reading.{Reading}
use Rattle.pl_world.specs.Calls.{Within, called, called_by_name, calls, nameless}
use Rattle.pl_world.specs.Errors.{Spot, raised, raises}
use Rattle.pl_world.specs.Expressions.{begun, inner, read}
use Rattle.pl_world.specs.Resolving.{Calling}
use Rattle.pl_world.specs.Running.{Bodies, Runner}
use Rattle.pl_world.specs.Variables.{row_of}
use Rattle.pl_world.specs.World.{Began, Committed, Frame, World, Ran, a_rollback, made, and_then}
use Rattle.pl_world.specs.World.{behind, ends}
use Rattle.pl_world.specs.declared.outcome.Outcome.{Outcome}
use Rattle.pl_world.specs.declared.outcome.Outcome.TheVariants as outcome

-- ---- COMMIT and ROLLBACK

abbrev pub are_commands : List Frame → Bool
are_commands fs = list_all (λ (f : Frame). f.is_command) fs

-- every running call is a CALL or a DO, no block with handlers runs its statements, and the session
-- is in no transaction block
abbrev pub may_commit : World → Bool
may_commit w = not w.in_block && (w.depth == 0) && are_commands (w.frame ∷ w.below)

-- the database now is committed, and a new transaction begins
abbrev pub committed : World → Ran Outcome
committed w = made (record w { last = w.database }) outcome.Next (Committed w.database ∷ [])

unfoldable pub commits : Spot → World → Ran Outcome
commits at w = if may_commit w then committed w else raised INVALID_TRANSACTION_TERMINATION at w

-- the database is that of the last commit
abbrev pub reset : World → Ran Outcome
reset w = ends outcome.Next (record w { database = w.last })

unfoldable pub rolls_back : Spot → World → Ran Outcome
rolls_back at w =
    behind (Began a_rollback ∷ [])
    (if may_commit w then reset w else raised INVALID_TRANSACTION_TERMINATION at w)

-- ---- CALL

-- what a command that was called leaves
abbrev pub after_call : Outcome → World → Ran Outcome
after_call (outcome.Return v) w = ends outcome.Next w
after_call o w = ends o w

-- the arguments, from left to right
abbrev pub arguments_over : Runner → Spot → List RExpr → World → Reading Within (List Value)
arguments_over r at list w =
    values (map (value (calls r at) (inner r at [] w)) list) [] (row_of w.frame ∷ []) (begun w)

unfoldable pub procedure_called : Runner → Spot → Calling → World → Ran Outcome
procedure_called r at c w =
    read (arguments_over r at c.arguments w) at (λ vs w.
    and_then (called_by_name r at true c.routine.name vs w) after_call)

-- ---- DO

-- an error that a DO has before it runs stands in that DO, on its first line
abbrev pub unread : State → Fail
unread state = record {
  state = state;
  message = Standard;
  detail = None;
  hint = None;
  origin = Engine;
  place = record { routine = []; line = 1; ordinal = 0 };
}

abbrev pub is_known : Option Name → Bool
is_known None = true
is_known (Some language) = bytes_eq language (codes "plpgsql")

-- the body, or why it is refused
abbrev pub body_read : Bodies → Option Name → List ℕ → Resolved Body
body_read bodies language text =
    if is_known language then bodies.read text else Err FEATURE_NOT_SUPPORTED

abbrev pub does_body : Runner → Spot → Resolved Body → World → Ran Outcome
does_body r at (Err state) w = raises outcome.Fail (unread state) w
does_body r at (Ok b) w = and_then (called r (nameless b) [] at w) after_call

unfoldable pub does : Runner → Spot → Option Name → List ℕ → World → Ran Outcome
does r at language text w = does_body r at (body_read r.bodies language text) w
