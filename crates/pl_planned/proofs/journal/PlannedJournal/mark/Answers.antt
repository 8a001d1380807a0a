use Rattle.pl_planned.proofs.Planning.{marked}
use Rattle.pl_planned.proofs.journal.PlannedJournal.mark.Goals as goal

pub invariant_of-self : goal.invariant_of-self
invariant_of-self c = marked c.self.inside.journal c.mark.new.self c.self.invariant c.mark.ensures.now c.mark.ensures.marks
