use Rattle.std.proofs.Common.{◌≡◌, ◌+◌, length}
use Rattle.pl_grouping.specs.Search.{place_of}
use Rattle.pl_grouping.proofs.search.place_of.Given as goal

abbrev pub invariant-loop-rest : goal.invariant-loop-rest
invariant-loop-rest l =
    (place_of l.tree 0 l.list ≡ place_of l.tree l.at l.rest)
    × (l.at + length l.rest ≡ length l.list)

abbrev pub decreases-loop-rest : goal.decreases-loop-rest
decreases-loop-rest l = length l.rest
