use Rattle.std.proofs.Common.{◌≡◌, length}
use Rattle.pl_keys.specs.Same.{same}
use Rattle.pl_keys.proofs.keys.have_same_values.Given as goal

abbrev pub invariant-loop-a : goal.invariant-loop-a
invariant-loop-a l = same l.fn.row l.fn.other ≡ same l.row l.other

abbrev pub decreases-loop-a : goal.decreases-loop-a
decreases-loop-a l = length l.row
