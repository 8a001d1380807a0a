use Rattle.std.proofs.Common.{◌≡◌, drop}
use Rattle.pl_asking.proofs.Acts.{Quietly, with_count}
use Rattle.pl_asking.proofs.placing.diagnose.Given as goal
use Rattle.pl_calling.specs.pl_engine.Engines.{kept, world}
use Rattle.pl_world.specs.Assigning.{diagnosed, put_each}

abbrev pub invariant-loop-target : goal.invariant-loop-target
invariant-loop-target l = record {
  way : Quietly (diagnosed l.targets l.at (world l.fn.engine)) (put_each (with_count l.count (drop l.target-index l.targets)) l.at (world l.engine)) l.fn.engine l.engine;
  keeps : kept l.engine ≡ kept l.fn.engine;
}
