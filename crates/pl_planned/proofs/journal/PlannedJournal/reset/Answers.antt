use Rattle.pl_planned.proofs.Planning.{anew}
use Rattle.pl_planned.proofs.journal.PlannedJournal.reset.Goals as goal

pub invariant_of-self : goal.invariant_of-self
invariant_of-self c = anew 0 c.reset.new.self (c.clear.ensures _) c.reset.ensures.marks
