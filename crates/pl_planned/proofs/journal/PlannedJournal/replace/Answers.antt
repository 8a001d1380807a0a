use Rattle.pl_planned.proofs.Planning.{stays}
use Rattle.pl_planned.proofs.journal.PlannedJournal.replace.Goals as goal

pub invariant_of-self : goal.invariant_of-self
invariant_of-self c = stays c.self.inside.journal c.replace.new.self c.self.invariant c.replace.ensures.only.objects c.replace.ensures.only.marks
