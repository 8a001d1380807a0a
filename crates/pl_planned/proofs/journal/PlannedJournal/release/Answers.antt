use Rattle.pl_planned.proofs.Planning.{released, released_before}
use Rattle.pl_planned.proofs.journal.PlannedJournal.release.Goals as goal

pub invariant_of-self : goal.invariant_of-self
invariant_of-self c = released_before c.self.inside.journal c.release.new.self c.self.invariant c.args.mark.at c.release.ensures.now c.release.ensures.marks

pub invariant_of-self-else-at-self : goal.invariant_of-self-else-at-self
invariant_of-self-else-at-self c = released c.self.inside.journal c.release.new.self c.self.invariant c.args.mark.at c.release.ensures.now c.release.ensures.marks
