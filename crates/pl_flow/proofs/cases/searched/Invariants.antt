use Rattle.std.proofs.Common.{◌≡◌, drop}
use Rattle.pl_engine.specs.Answers.{Partway}
use Rattle.pl_engine.specs.Engines.{kept, world}
use Rattle.pl_engine.specs.Texts.{do_bodies}
use Rattle.pl_flow.proofs.cases.searched.Given as goal
use Rattle.pl_engine.specs.pl_world.Control.{searched}
use Rattle.pl_engine.specs.pl_world.Statements.{runner_for}

abbrev pub invariant-loop-arm : goal.invariant-loop-arm
invariant-loop-arm g l = record {
  way : Partway g.P.Port (searched (runner_for do_bodies l.runner.room) l.at l.arms l.otherwise (world l.fn.engine))
      (searched (runner_for do_bodies l.runner.room) l.at (drop l.arm-index l.arms) l.otherwise (world l.engine)) l.fn.engine l.engine l.fn.port l.port;
  keeps : kept l.engine ≡ kept l.fn.engine;
}
