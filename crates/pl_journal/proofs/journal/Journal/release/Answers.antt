use Rattle.pl_journal.proofs.Fronts.{is_left}
use Rattle.pl_journal.proofs.journal.Journal.release.Goals as goal

pub invariant_of-self : goal.invariant_of-self
invariant_of-self c =
    is_left c.self.inside.payload.items c.self.inside.sizes.items c.self.inside.store c.self.invariant c.args.mark.at c.truncate.new.self.items c.release.new.self c.truncate.ensures.items c.release.ensures.now c.release.ensures.last c.release.ensures.marks
