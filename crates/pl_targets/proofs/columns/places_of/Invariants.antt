use Rattle.std.proofs.Common.{◌≡◌, [], length}
use Rattle.pl_targets.specs.Columns.{places_on}
use Rattle.pl_targets.proofs.columns.places_of.Given as goal

abbrev pub invariant-loop-names : goal.invariant-loop-names
invariant-loop-names l = places_on l.twice l.fn.names l.columns [] ≡ places_on l.twice l.names l.columns l.places

abbrev pub decreases-loop-names : goal.decreases-loop-names
decreases-loop-names l = length l.names
