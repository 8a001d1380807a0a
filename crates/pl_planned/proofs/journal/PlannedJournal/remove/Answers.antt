use Rattle.pl_planned.proofs.Planning.{stays}
use Rattle.pl_planned.proofs.journal.PlannedJournal.remove.Goals as goal

pub invariant_of-self : goal.invariant_of-self
invariant_of-self c = stays c.self.inside.journal c.remove.new.self c.self.invariant c.remove.ensures.only.objects c.remove.ensures.only.marks
