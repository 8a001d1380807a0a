use Rattle.std.proofs.Common.{◌≡◌, length}
use Rattle.pl_tables.specs.Places.{there}
use Rattle.pl_tables.proofs.tables.settle.Given as goal

abbrev pub invariant-loop-step : goal.invariant-loop-step
invariant-loop-step l = there l.places.items ≡ there l.fn.places.items

abbrev pub decreases-loop-step : goal.decreases-loop-step
decreases-loop-step l = length l.steps.items
