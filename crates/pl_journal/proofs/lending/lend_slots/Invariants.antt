use Rattle.std.proofs.Common.{◌≡◌, ℕ, map, take}
use Rattle.pl_tables.specs.Slots.{live}
use Rattle.pl_value.specs.Frames.{Row, rows_of}
use Rattle.pl_journal.proofs.lending.lend_slots.Given as goal

abbrev pub invariant-loop-slot : goal.invariant-loop-slot
invariant-loop-slot l = rows_of l.lent.items ≡ map (λ (entry : ℕ × Row). entry.1) (live (take l.slot-index l.slots))
