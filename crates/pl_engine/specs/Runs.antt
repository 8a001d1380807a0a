-- What the function for a form of statement needs of the one that runs the statements inside.
use Rattle.std.specs.Prelude.{◌≡◌, ◌≤◌, ℕ, Result, OnOk}
use denote.Ref.{MutBor}
use Rattle.pl_engine.specs.Answers.{Answers}
use Rattle.pl_engine.specs.Asks.{asked}
use Rattle.pl_engine.specs.Engines.{kept, world}
use Rattle.pl_engine.specs.declared.engine.Engine.{Engine}
use Rattle.pl_engine.specs.declared.port.Port.{Ghosts}
use Rattle.pl_engine.specs.declared.runner.Task.{Task}
use Rattle.pl_engine.specs.declared.runner.Task.TheVariants as task
use Rattle.pl_engine.specs.declared.stop.Stop.{Stop}
use Rattle.pl_engine.specs.Texts.{do_bodies}
use Rattle.pl_world.specs.Running.{Bodies, body, statement}
use Rattle.pl_world.specs.Statements.{run_within, runner_for}
use Rattle.pl_world.specs.World.{World, Ran}
use Rattle.pl_world.specs.declared.outcome.Outcome.{Outcome}

-- what a task does where there is room for so many steps
abbrev pub run_as : Bodies → ℕ → Task → World → Ran Outcome
run_as bodies room (task.Statement s) w = run_within bodies room (statement s.now) w
run_as bodies room (task.Body b) w = run_within bodies room (body b.now) w
run_as bodies room (task.Ask at what) w = asked (runner_for bodies room) at.now what w

-- where there is room for the steps that are left, and the port fits, it may be called, answers
-- what the task does, and keeps what each statement keeps
pub record Runs {P : Type 0} (port : Ghosts P) (room : ℕ)
    (pre : ℕ → MutBor Engine → MutBor P → Task → Type 0)
    (post : ℕ → MutBor Engine → MutBor P → Task → Result Outcome Stop → MutBor Engine
    → MutBor P → Type 0) : Type 0 where
  pub callable : (old : MutBor Engine) (p : MutBor P) (t : Task)
      → (world old.now).steps ≤ room → port.fits (world old.now).last p.now → pre room old p t
  pub runs : (old new : MutBor Engine) (p q : MutBor P) (t : Task) (r : Result Outcome Stop)
      → (world old.now).steps ≤ room → port.fits (world old.now).last p.now
      → post room old p t r new q
      → Answers port (run_as do_bodies room t (world old.now)) r
      old.now new.now p.now q.now
  pub keeps : (old new : MutBor Engine) (p q : MutBor P) (t : Task) (r : Result Outcome Stop)
      → (world old.now).steps ≤ room → port.fits (world old.now).last p.now
      → post room old p t r new q
      → OnOk r (kept new.now ≡ kept old.now)
