use Rattle.std.proofs.Common.{◌≡◌, ◌+◌, length}
use Rattle.pl_scope.specs.Steps.{one_of, places_named}
use Rattle.pl_scope.specs.Named.{beside}
use Rattle.pl_scope.proofs.ordering.named_on.Given as goal

abbrev pub invariant-loop-rest : goal.invariant-loop-rest
invariant-loop-rest l =
    (one_of l.values (places_named l.name 0 l.heads) ≡ one_of l.values (beside l.found (places_named l.name l.at l.rest)))
    × (l.at + length l.rest ≡ length l.heads)

abbrev pub decreases-loop-rest : goal.decreases-loop-rest
decreases-loop-rest l = length l.rest
