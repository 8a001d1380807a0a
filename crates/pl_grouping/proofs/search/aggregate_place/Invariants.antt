use Rattle.std.proofs.Common.{◌≡◌, ◌+◌, length}
use Rattle.pl_grouping.specs.Search.{aggregate_place}
use Rattle.pl_grouping.proofs.search.aggregate_place.Given as goal

abbrev pub invariant-loop-rest : goal.invariant-loop-rest
invariant-loop-rest l =
    (aggregate_place l.aggregate 0 l.list ≡ aggregate_place l.aggregate l.at l.rest)
    × (l.at + length l.rest ≡ length l.list)

abbrev pub decreases-loop-rest : goal.decreases-loop-rest
decreases-loop-rest l = length l.rest
