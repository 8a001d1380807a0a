use Rattle.std.proofs.Common.{length}
use Rattle.pl_quick.proofs.reading.clear.Given as goal

abbrev pub decreases-loop-value : goal.decreases-loop-value
decreases-loop-value l = length l.values
