use Rattle.std.proofs.Common.{◌≡◌, length}
use Rattle.pl_grouping.specs.Fronts.{is_begun_cast}
use Rattle.pl_grouping.proofs.fronts.is_begun_cast.Given as goal

abbrev pub invariant-loop-keys : goal.invariant-loop-keys
invariant-loop-keys l =
    is_begun_cast l.fn.keys l.operand l.types ≡ is_begun_cast l.keys l.operand l.types

abbrev pub decreases-loop-keys : goal.decreases-loop-keys
decreases-loop-keys l = length l.keys
