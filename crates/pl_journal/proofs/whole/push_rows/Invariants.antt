use Rattle.std.proofs.Common.{drop}
use Rattle.pl_journal.specs.Whole.{row_ops}
use Rattle.pl_journal.proofs.WholeParts.{AreLeft}
use Rattle.pl_tables.specs.Slots.{live}
use Rattle.pl_journal.proofs.whole.push_rows.Given as goal

abbrev pub invariant-loop-slot : goal.invariant-loop-slot
invariant-loop-slot l = AreLeft (row_ops l.name (live (drop l.slot-index l.slots))) (row_ops l.name (live l.slots)) l.fn.bytes.items l.bytes.items
