use Rattle.std.proofs.Common.{◌≡◌, ◌≤◌, length}
use Rattle.pl_transactions.proofs.places.place_of.Given as goal
use Rattle.pl_transactions.specs.Places.{place_in}

-- the place among all is that among the rest
abbrev pub invariant-loop-newest : goal.invariant-loop-newest
invariant-loop-newest l = record {
  place : place_in l.name l.names ≡ place_in l.name l.rest;
  within : length l.rest ≤ length l.names;
}

abbrev pub decreases-loop-newest : goal.decreases-loop-newest
decreases-loop-newest l = length l.rest
