use Rattle.std.proofs.Common.{◌≡◌, drop}
use Rattle.pl_asking.proofs.Acts.{Quietly}
use Rattle.pl_asking.proofs.placing.put_all.Given as goal
use Rattle.pl_calling.specs.pl_engine.Engines.{kept, world}
use Rattle.pl_world.specs.Assigning.{put_all}

abbrev pub invariant-loop-variable : goal.invariant-loop-variable
invariant-loop-variable l = record {
  way : Quietly (put_all l.variables l.row l.at (world l.fn.engine)) (put_all (drop l.variable-index l.variables) l.left l.at (world l.engine)) l.fn.engine l.engine;
  keeps : kept l.engine ≡ kept l.fn.engine;
}
