use Rattle.std.proofs.Common.{◌≡◌, drop}
use Rattle.pl_engine.specs.Answers.{Partway}
use Rattle.pl_engine.specs.Engines.{kept, world}
use Rattle.pl_engine.specs.Texts.{do_bodies}
use Rattle.pl_flow.proofs.branching.branches.Given as goal
use Rattle.pl_engine.specs.pl_world.Control.{branches}
use Rattle.pl_engine.specs.pl_world.Statements.{runner_for}

abbrev pub invariant-loop-branch : goal.invariant-loop-branch
invariant-loop-branch g l = record {
  way : Partway g.P.Port (branches (runner_for do_bodies l.runner.room) l.at l.branches l.or_else (world l.fn.engine))
      (branches (runner_for do_bodies l.runner.room) l.at (drop l.branch-index l.branches) l.or_else (world l.engine)) l.fn.engine l.engine l.fn.port l.port;
  keeps : kept l.engine ≡ kept l.fn.engine;
}
