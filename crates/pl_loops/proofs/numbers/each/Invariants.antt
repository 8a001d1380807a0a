use Rattle.std.proofs.Common.{◌≡◌, None}
use Rattle.pl_quick.specs.Acts.{Suits}
use Rattle.pl_engine.specs.Answers.{Partway}
use Rattle.pl_engine.specs.Engines.{kept, world}
use Rattle.pl_engine.specs.Texts.{do_bodies}
use Rattle.pl_loops.proofs.numbers.each.Given as goal
use Rattle.pl_loops.specs.Ranges.{AreIntegers, numbers_in}
use Rattle.pl_engine.specs.pl_world.Control.{each}
use Rattle.pl_engine.specs.pl_world.Statements.{runner_for}

abbrev pub invariant-loop-number : goal.invariant-loop-number
invariant-loop-number g l = record {
  way : Partway g.P.Port (each (runner_for do_bodies l.runner.room) l.at l.label l.to l.body (numbers_in l.fn.range) (world l.fn.engine))
      (each (runner_for do_bodies l.runner.room) l.at l.label l.to l.body (numbers_in l.left) (world l.engine)) l.fn.engine l.engine l.fn.port l.port;
  integers : AreIntegers (numbers_in l.left);
  suits : Suits l.quick None l.body (world l.engine);
  keeps : kept l.engine ≡ kept l.fn.engine;
}

abbrev pub decreases-loop-number : goal.decreases-loop-number
decreases-loop-number g l = l.left.count
