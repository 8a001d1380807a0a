use Rattle.std.proofs.Common.{length}
use Rattle.pl_altering.proofs.taking.are_own.Given as goal
use Rattle.pl_altering.specs.Taking.{AreOwn}

abbrev pub invariant-loop-left : goal.invariant-loop-left
invariant-loop-left l = AreOwn l.left l.at → AreOwn l.list 0

abbrev pub decreases-loop-left : goal.decreases-loop-left
decreases-loop-left l = length l.left
