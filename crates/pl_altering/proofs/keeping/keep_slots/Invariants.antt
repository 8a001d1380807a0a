use Rattle.std.proofs.Common.{◌≡◌, take}
use Rattle.pl_altering.proofs.keeping.keep_slots.Given as goal
use Rattle.pl_altering.specs.Entries.{entries}
use Rattle.pl_tables.specs.Slots.{live}

abbrev pub invariant-loop-slot : goal.invariant-loop-slot
invariant-loop-slot l = entries l.kept.items ≡ live (take l.slot-index l.slots)
