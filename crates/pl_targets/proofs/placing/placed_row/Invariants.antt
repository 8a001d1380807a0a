use Rattle.std.proofs.Common.{◌≡◌, ◌+◌, length}
use Rattle.pl_targets.specs.Columns.{defaults}
use Rattle.pl_targets.specs.Placing.{placed_on}
use Rattle.pl_targets.proofs.placing.placed_row.Given as goal

abbrev pub invariant-loop-heads : goal.invariant-loop-heads
invariant-loop-heads l =
    (placed_on l.fn.heads l.items 0 l.row l.fn.places l.columns (defaults l.columns) ≡ placed_on l.heads l.items l.at l.row l.places l.columns l.values)
    × (l.at + length l.heads ≡ length l.fn.heads)

abbrev pub decreases-loop-heads : goal.decreases-loop-heads
decreases-loop-heads l = length l.heads
