-- How the code finds the branch of an IF; no definition.
use Rattle.std.specs.Prelude.{◌≡◌, ℕ, List, Option}
use Rattle.pl_bodies.specs.declared.statement.Branch.{Branch}
use Rattle.pl_bodies.specs.declared.statement.Otherwise.{Otherwise}
use Rattle.pl_bodies.specs.declared.statement.Statement.{Statement}
use Rattle.pl_engine.specs.pl_world.Control.{else_of}
use Rattle.pl_engine.specs.pl_world.World.{World}
use Rattle.pl_engine.specs.pl_world.declared.outcome.Outcome.{Outcome}
use Rattle.pl_quick.specs.Acts.{AreFor, AreForBranches}
use Rattle.pl_quick.specs.Computing.{AllCompute, BranchesCompute}
use Rattle.pl_quick.specs.Scratch.{in_world}
use Rattle.pl_quick.specs.declared.act.Act.{Act}
use Rattle.pl_quick.specs.declared.act.Arm.{Arm}
use Rattle.pl_quick.specs.declared.scratch.Scratch.{Scratch}

-- no condition is true, so an IF of these arms does what its ELSE does; nothing was done yet
pub record AreFalse (arms : List Arm) (first now : Scratch) : Type 0 where
  pub same : first ≡ now
  pub otherwise : (w : World) (acts : List Act) (o : Outcome) (new : World)
      → ((n : ℕ) (ss : List Statement) → AreFor n acts ss w → AllCompute ss o (in_world now w) new)
      → (n : ℕ) (bs : List Branch) (e : Option Otherwise) → AreForBranches n arms bs w
      → AreFor n acts (else_of e) w → BranchesCompute bs e o (in_world first w) new
