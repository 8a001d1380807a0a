-- What runs the tasks inside of a task.
use Rattle.std.specs.Prelude.{◌<◌, ℕ, Result}
use denote.Ref.{MutBor}
use Rattle.pl_control.specs.pl_engine.Runs.{Runs}
use Rattle.pl_control.specs.pl_engine.declared.engine.Engine.{Engine}
use Rattle.pl_control.specs.pl_engine.declared.port.Port.{Ghosts}
use Rattle.pl_control.specs.pl_engine.declared.runner.Task.{Task}
use Rattle.pl_control.specs.pl_engine.declared.stop.Stop.{Stop}
use Rattle.pl_world.specs.declared.outcome.Outcome.{Outcome}

-- it runs tasks wherever there is less room
abbrev pub RunsBelow : {P : Type 0} → Ghosts P → ℕ
    → (ℕ → MutBor Engine → MutBor P → Task → Type 0)
    → (ℕ → MutBor Engine → MutBor P → Task → Result Outcome Stop → MutBor Engine → MutBor P
    → Type 0)
    → Type 0
RunsBelow port room pre post = (n : ℕ) → n < room → Runs port n pre post
