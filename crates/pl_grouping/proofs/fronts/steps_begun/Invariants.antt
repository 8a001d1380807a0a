use Rattle.std.proofs.Common.{◌≡◌, length, max}
use Rattle.pl_grouping.specs.Fronts.{steps_begun}
use Rattle.pl_grouping.proofs.fronts.steps_begun.Given as goal

abbrev pub invariant-loop-keys : goal.invariant-loop-keys
invariant-loop-keys l =
    steps_begun l.fn.keys l.chain ≡ max l.most (steps_begun l.keys l.chain)

abbrev pub decreases-loop-keys : goal.decreases-loop-keys
decreases-loop-keys l = length l.keys
