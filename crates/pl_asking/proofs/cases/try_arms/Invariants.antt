use Rattle.std.proofs.Common.{◌≡◌, drop}
use Rattle.pl_asking.proofs.cases.try_arms.Given as goal
use Rattle.pl_calling.specs.pl_engine.Answers.{Partway}
use Rattle.pl_calling.specs.pl_engine.Engines.{kept, world}
use Rattle.pl_calling.specs.pl_engine.Texts.{do_bodies}
use Rattle.pl_world.specs.Control.{arms_tried}
use Rattle.pl_world.specs.Statements.{runner_for}

abbrev pub invariant-loop-arm : goal.invariant-loop-arm
invariant-loop-arm g l = record {
  way : Partway g.P.Port (arms_tried (runner_for do_bodies l.runner.room) l.at l.ty l.operand l.arms l.otherwise (world l.fn.engine))
      (arms_tried (runner_for do_bodies l.runner.room) l.at l.ty l.operand (drop l.arm-index l.arms) l.otherwise (world l.engine)) l.fn.engine l.engine l.fn.port l.port;
  keeps : kept l.engine ≡ kept l.fn.engine;
}
