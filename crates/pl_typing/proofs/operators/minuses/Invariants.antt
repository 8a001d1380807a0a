use Rattle.std.proofs.Common.{◌≡◌, ◌+◌, ◌≤◌, length}
use Rattle.pl_typing.specs.Operators.{minuses}
use Rattle.pl_typing.proofs.operators.minuses.Given as goal

abbrev pub invariant-loop-rest : goal.invariant-loop-rest
invariant-loop-rest l =
    (minuses l.signs ≡ l.count + minuses l.rest) × (l.count + length l.rest ≤ length l.signs)

abbrev pub decreases-loop-rest : goal.decreases-loop-rest
decreases-loop-rest l = length l.rest
