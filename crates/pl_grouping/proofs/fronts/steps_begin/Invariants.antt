use Rattle.std.proofs.Common.{◌≡◌, length, map}
use Rattle.pl_grouping.specs.Equality.{same_step}
use Rattle.pl_grouping.specs.Fronts.{all_begin}
use Rattle.pl_grouping.proofs.fronts.steps_begin.Given as goal

abbrev pub invariant-loop-key : goal.invariant-loop-key
invariant-loop-key l =
    all_begin (map same_step l.fn.key) l.fn.steps ≡ all_begin (map same_step l.key) l.steps

abbrev pub decreases-loop-key : goal.decreases-loop-key
decreases-loop-key l = length l.key
