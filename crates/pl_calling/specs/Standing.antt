-- What is kept of a state within an evaluation, and the calls of routines over it.
use Rattle.std.specs.Prelude.{◌≡◌, ◌≤◌, ◌+◌, ◌-◌, ℕ, Bool, false, List, [], ◌++◌, Option, Some}
use Rattle.std.specs.Prelude.{None}
use Rattle.pl_base.specs.declared.fail.Fail.{Fail}
use Rattle.pl_base.specs.declared.value.Value.{Value}
use Rattle.pl_engine.specs.Engines.{Kept, stepped_in}
use Rattle.pl_engine.specs.Holding.{said}
use Rattle.pl_engine.specs.Texts.{do_bodies}
use Rattle.pl_engine.specs.pl_journal.Operation.{empty}
use Rattle.pl_engine.specs.pl_world.Trace as trace
use Rattle.pl_value.specs.Meaning.{Calls}
use Rattle.pl_value.specs.Reading.{Reading, got, fails}
use Rattle.pl_engine.specs.pl_world.Calls.{Within, called_by_name, void}
use Rattle.pl_engine.specs.pl_world.Errors.{Spot}
use Rattle.pl_engine.specs.pl_world.Expressions.{begun}
use Rattle.pl_engine.specs.pl_world.Scripts.{outward}
use Rattle.pl_engine.specs.pl_world.Sessions.{new_world}
use Rattle.pl_engine.specs.pl_world.Statements.{runner_for}
use Rattle.pl_engine.specs.pl_world.World.{Event, Ran, World, made}
use Rattle.pl_engine.specs.pl_world.declared.outcome.Outcome.{Outcome}
use Rattle.pl_engine.specs.pl_world.declared.outcome.Outcome.TheVariants as outcome

-- Of what happened since the evaluation began it has what was printed and committed, and how many
-- steps were taken. Calls are those of the statement at the spot, with room for so many steps.
pub record Standing : Type 0 where
  pub world : World
  pub said : List trace.Event
  pub spent : ℕ
  -- the error of a call that failed
  pub failure : Option Fail
  pub at : Spot
  pub room : ℕ

abbrev pub keep : Spot → ℕ → Within → Standing
keep at room x = record {
  world = x.world;
  said = outward x.told;
  spent = stepped_in x.told;
  failure = x.failure;
  at = at;
  room = room;
}

-- nothing happened yet
abbrev pub fresh : Spot → ℕ → World → Standing
fresh at room w = keep at room (begun w)

-- ---- calls

-- what a call leaves
abbrev pub behind_call : World → List Event → Option Fail → Standing → Standing
behind_call w es failure s = record s {
  world = w;
  said = s.said ++ outward es;
  spent = s.spent + stepped_in es;
  failure = failure;
}

-- a call ends with a value or an error
abbrev pub answered_by : Standing → Ran Outcome → Reading Standing Value
answered_by s (made w (outcome.Return v) es) = got v (behind_call w es None s)
answered_by s (made w (outcome.Fail f) es) = fails f.state (behind_call w es (Some f) s)
answered_by s (made w o es) = got void (behind_call w es None s)

abbrev pub calls_kept : Calls Standing
calls_kept name values s =
    answered_by s (called_by_name (runner_for do_bodies s.room) s.at false name values s.world)

-- ---- an engine within an evaluation

-- an engine that stands for this world, where the evaluation began in that one, and what is held
abbrev pub standing : (begin now : World) → List (List ℕ) → Option Fail → Spot → ℕ → Standing
standing begin now held failure at room = record {
  world = now;
  said = said held;
  spent = begin.steps - now.steps;
  failure = failure;
  at = at;
  room = room;
}

-- There is room for the steps, and bodies may be run. Unless a call stopped, nothing was committed,
-- no step was given, and what each statement leaves as it was is as it was.
pub record Sound (begin : World) (stays : Kept) (can : Type 0) (is_lost : Bool) (now : World)
    (keeps_now : Kept) (limit : ℕ) : Type 0 where
  pub room : begin.steps ≤ limit
  pub runs : can
  pub last : is_lost ≡ false → now.last ≡ begin.last
  pub steps : is_lost ≡ false → now.steps ≤ begin.steps
  pub keeps : is_lost ≡ false → keeps_now ≡ stays

-- some world, and what is left as it was, where none are picked
abbrev pub nowhere : World
nowhere = new_world empty

abbrev pub nothing : Kept
nothing = record { below = []; marks = []; in_block = false; changing = [] }
