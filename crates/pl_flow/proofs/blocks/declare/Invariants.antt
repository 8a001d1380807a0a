use Rattle.std.proofs.Common.{◌≡◌, drop}
use Rattle.pl_engine.specs.Answers.{Partway}
use Rattle.pl_engine.specs.Engines.{kept, world}
use Rattle.pl_engine.specs.Texts.{do_bodies}
use Rattle.pl_flow.proofs.blocks.declare.Given as goal
use Rattle.pl_engine.specs.pl_world.Blocks.{all_declared}
use Rattle.pl_engine.specs.pl_world.Statements.{runner_for}

abbrev pub invariant-loop-declaration : goal.invariant-loop-declaration
invariant-loop-declaration g l = record {
  way : Partway g.P.Port (all_declared (runner_for do_bodies l.runner.room) l.at l.declarations (world l.fn.engine))
      (all_declared (runner_for do_bodies l.runner.room) l.at (drop l.declaration-index l.declarations) (world l.engine)) l.fn.engine l.engine l.fn.port l.port;
  keeps : kept l.engine ≡ kept l.fn.engine;
}
