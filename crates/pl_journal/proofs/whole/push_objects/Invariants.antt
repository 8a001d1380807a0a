use Rattle.std.proofs.Common.{length}
use Rattle.pl_journal.specs.Whole.{whole_of}
use Rattle.pl_journal.proofs.WholeParts.{AreLeft}
use Rattle.pl_journal.proofs.whole.push_objects.Given as goal

abbrev pub invariant-loop-object : goal.invariant-loop-object
invariant-loop-object l = AreLeft (whole_of l.objects l.tables.current) (whole_of l.catalog.objects l.tables.current) l.fn.bytes.items l.bytes.items

abbrev pub decreases-loop-object : goal.decreases-loop-object
decreases-loop-object l = length l.objects
