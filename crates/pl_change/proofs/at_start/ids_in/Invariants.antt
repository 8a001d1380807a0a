use Rattle.std.proofs.Common.{◌≡◌, ℕ, map, take}
use Rattle.pl_tables.specs.Slots.{live}
use Rattle.pl_value.specs.Frames.{Row}
use Rattle.pl_change.proofs.at_start.ids_in.Given as goal

abbrev pub invariant-loop-slot : goal.invariant-loop-slot
invariant-loop-slot l = l.ids.items ≡ map (λ (entry : ℕ × Row). entry.0) (live (take l.slot-index l.slots))
