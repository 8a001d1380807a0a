use Rattle.std.proofs.Common.{◌≡◌, drop}
use Rattle.pl_engine.proofs.runner.all.Given as goal
use Rattle.pl_engine.specs.Answers.{Partway}
use Rattle.pl_engine.specs.Engines.{kept, world}
use Rattle.pl_engine.specs.Texts.{do_bodies}
use Rattle.pl_world.specs.Running.{all}
use Rattle.pl_world.specs.Statements.{runner_for}

abbrev pub invariant-loop-s : goal.invariant-loop-s
invariant-loop-s g l = record {
  way : Partway g.P.Port (all (runner_for do_bodies l.runner.room) l.statements (world l.fn.engine)) (all (runner_for do_bodies l.runner.room) (drop l.s-index l.statements) (world l.engine)) l.fn.engine l.engine l.fn.port l.port;
  keeps : kept l.engine ≡ kept l.fn.engine;
}
