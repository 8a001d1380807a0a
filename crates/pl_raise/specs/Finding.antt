-- How the answers of functions stand to a part of a run that finds something.
use Rattle.std.specs.Prelude.{◌≡◌, Result, Ok, Err}
use Rattle.pl_asking.specs.pl_engine.Answers.{Done, Partway, Stopped}
use Rattle.pl_asking.specs.pl_engine.Engines.{Quiet, world}
use Rattle.pl_asking.specs.pl_engine.declared.engine.Engine.{Engine}
use Rattle.pl_asking.specs.pl_engine.declared.port.Port.{Ghosts}
use Rattle.pl_asking.specs.pl_engine.declared.stop.Stop.{Stop}
use Rattle.pl_world.specs.World.{World, Ran}
use Rattle.pl_world.specs.declared.outcome.Outcome.{Outcome}

-- what goes on with what is found
abbrev pub Next : Type 0 → Type 0
Next A = A → World → Ran Outcome

-- a run that finds something, and what goes on with it
abbrev pub Part : Type 0 → Type 0
Part A = Next A → Ran Outcome

-- in this world it is found, or the statement ends so
abbrev pub FindsHere : {A : Type 0} → Part A → Result A Outcome → Engine → Type 0
FindsHere {A} part (Ok a) e = (k : Next A) → part k ≡ k a (world e)
FindsHere {A} part (Err o) e = (k : Next A) → Quiet (part k) o e e

-- whatever goes on, the run has come to where it was found; or the statement ended so, or the
-- engine stopped
module _ {P : Type 0} (port : Ghosts P) where
  abbrev pub Finds : {A : Type 0} → Part A → Result (Result A Outcome) Stop → Engine → Engine
      → P → P → Type 0
  Finds {A} part (Ok (Ok a)) old new p q =
      (k : Next A) → Partway port (part k) (k a (world new)) old new p q
  Finds {A} part (Ok (Err o)) old new p q = (k : Next A) → Done port (part k) o old new p q
  Finds {A} part (Err stop) old new p q = (k : Next A) → Stopped port (part k) stop old p q
