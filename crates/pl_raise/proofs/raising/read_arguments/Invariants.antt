use Rattle.std.proofs.Common.{◌≡◌, List, [], drop}
use Rattle.pl_asking.specs.pl_engine.Answers.{Partway}
use Rattle.pl_asking.specs.pl_engine.Engines.{kept, world}
use Rattle.pl_asking.specs.pl_engine.Texts.{do_bodies}
use Rattle.pl_raise.proofs.raising.read_arguments.Given as goal
use Rattle.pl_raise.specs.Finding.{Next}
use Rattle.pl_world.specs.Raising.{Text, arguments_told}
use Rattle.pl_world.specs.Statements.{runner_for}

abbrev pub invariant-loop-e : goal.invariant-loop-e
invariant-loop-e g l = record {
  way : (k : Next (List Text)) → Partway g.P.Port (arguments_told (runner_for do_bodies l.calls.room) l.at l.list [] (world l.fn.engine) k)
      (arguments_told (runner_for do_bodies l.calls.room) l.at (drop l.e-index l.list) l.texts (world l.engine) k) l.fn.engine l.engine l.fn.port l.port;
  keeps : kept l.engine ≡ kept l.fn.engine;
}
