use Rattle.pl_planned.proofs.Planning.{anew}
use Rattle.pl_planned.proofs.journal.PlannedJournal.new.Goals as goal

pub invariant_of-result : goal.invariant_of-result
invariant_of-result c = anew 0 c.args.journal (c.new.ensures _) c.requires.unmarked
