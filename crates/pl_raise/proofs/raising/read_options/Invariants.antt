use Rattle.std.proofs.Common.{◌≡◌, drop}
use Rattle.pl_asking.specs.pl_engine.Answers.{Partway}
use Rattle.pl_asking.specs.pl_engine.Engines.{kept, world}
use Rattle.pl_asking.specs.pl_engine.Texts.{do_bodies}
use Rattle.pl_raise.proofs.raising.read_options.Given as goal
use Rattle.pl_raise.specs.Finding.{Next}
use Rattle.pl_world.specs.Raising.{Report, options_told}
use Rattle.pl_world.specs.Statements.{runner_for}

abbrev pub invariant-loop-option : goal.invariant-loop-option
invariant-loop-option g l = record {
  way : (k : Next (Report)) → Partway g.P.Port (options_told (runner_for do_bodies l.calls.room) l.at l.list l.fn.first (world l.fn.engine) k)
      (options_told (runner_for do_bodies l.calls.room) l.at (drop l.option-index l.list) l.report (world l.engine) k) l.fn.engine l.engine l.fn.port l.port;
  keeps : kept l.engine ≡ kept l.fn.engine;
}
