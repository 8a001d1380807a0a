use Rattle.std.proofs.Common.{◌≡◌, ◌-◌, None}
use Rattle.pl_quick.specs.Acts.{Suits}
use Rattle.pl_engine.specs.Answers.{Partway}
use Rattle.pl_engine.specs.Engines.{kept, world}
use Rattle.pl_engine.specs.Texts.{do_bodies}
use Rattle.pl_loops.proofs.loops.forever.Given as goal
use Rattle.pl_engine.specs.pl_world.Control.{forever, loop, turns}
use Rattle.pl_engine.specs.pl_world.Statements.{runner_for}

abbrev pub invariant-loop-turn : goal.invariant-loop-turn
invariant-loop-turn g l = record {
  way : Partway g.P.Port (loop (runner_for do_bodies l.runner.room) l.at l.label forever l.body (world l.fn.engine))
      (turns (l.runner.room - l._turn) (runner_for do_bodies l.runner.room) l.at l.label forever l.body (world l.engine)) l.fn.engine l.engine l.fn.port l.port;
  suits : Suits l.quick None l.body (world l.engine);
  keeps : kept l.engine ≡ kept l.fn.engine;
}
