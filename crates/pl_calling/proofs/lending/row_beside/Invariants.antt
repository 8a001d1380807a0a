use Rattle.std.proofs.Common.{◌≡◌, ◌++◌, take}
use Rattle.pl_calling.proofs.lending.row_beside.Given as goal
use Rattle.pl_engine.specs.Engines.{world}
use Rattle.pl_engine.specs.pl_world.Variables.{row_of}

abbrev pub invariant-loop-value : goal.invariant-loop-value
invariant-loop-value l = l.row ≡ row_of (world l.engine).frame ++ take l.value-index l.beside
