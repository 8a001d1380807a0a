use Rattle.std.proofs.Common.{length}
use Rattle.std.specs.List.{AllByRecursion}
use Rattle.pl_altering.proofs.taking.are_wide.Given as goal
use Rattle.pl_altering.specs.Taking.{HasWidth}

abbrev pub invariant-loop-left : goal.invariant-loop-left
invariant-loop-left l = AllByRecursion (HasWidth l.width) l.left → AllByRecursion (HasWidth l.width) l.rows

abbrev pub decreases-loop-left : goal.decreases-loop-left
decreases-loop-left l = length l.left
