use Rattle.pl_planned.proofs.Planning.{stays}
use Rattle.pl_planned.proofs.journal.PlannedJournal.insert.Goals as goal

pub invariant_of-self : goal.invariant_of-self
invariant_of-self c = stays c.self.inside.journal c.insert.new.self c.self.invariant c.insert.ensures.only.objects c.insert.ensures.only.marks
