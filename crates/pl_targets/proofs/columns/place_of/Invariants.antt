use Rattle.std.proofs.Common.{◌≡◌, ◌+◌, length}
use Rattle.pl_targets.specs.Columns.{place_of}
use Rattle.pl_targets.proofs.columns.place_of.Given as goal

abbrev pub invariant-loop-rest : goal.invariant-loop-rest
invariant-loop-rest l = (place_of l.name 0 l.columns ≡ place_of l.name l.at l.rest) × (l.at + length l.rest ≡ length l.columns)

abbrev pub decreases-loop-rest : goal.decreases-loop-rest
decreases-loop-rest l = length l.rest
