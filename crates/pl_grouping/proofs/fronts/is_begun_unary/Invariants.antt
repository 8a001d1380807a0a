use Rattle.std.proofs.Common.{◌≡◌, length}
use Rattle.pl_grouping.specs.Fronts.{is_begun_unary}
use Rattle.pl_grouping.proofs.fronts.is_begun_unary.Given as goal

abbrev pub invariant-loop-keys : goal.invariant-loop-keys
invariant-loop-keys l =
    is_begun_unary l.fn.keys l.operator l.times l.operand
    ≡ is_begun_unary l.keys l.operator l.times l.operand

abbrev pub decreases-loop-keys : goal.decreases-loop-keys
decreases-loop-keys l = length l.keys
