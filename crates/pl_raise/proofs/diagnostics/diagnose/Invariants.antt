use Rattle.std.proofs.Common.{◌≡◌, drop, map}
use Rattle.pl_asking.proofs.Acts.{Quietly}
use Rattle.pl_asking.specs.pl_engine.Engines.{kept, world}
use Rattle.pl_raise.proofs.diagnostics.diagnose.Given as goal
use Rattle.pl_world.specs.Assigning.{put_each, stacked}

abbrev pub invariant-loop-one : goal.invariant-loop-one
invariant-loop-one l = record {
  way : Quietly (put_each (map (stacked l.f) l.targets) l.at (world l.fn.engine)) (put_each (map (stacked l.f) (drop l.one-index l.targets)) l.at (world l.engine)) l.fn.engine l.engine;
  keeps : kept l.engine ≡ kept l.fn.engine;
}
