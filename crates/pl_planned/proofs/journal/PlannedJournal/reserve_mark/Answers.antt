use Rattle.std.proofs.Common.{ap}
use Rattle.pl_planned.proofs.Planning.{stays}
use Rattle.pl_planned.proofs.journal.PlannedJournal.reserve_mark.Goals as goal
use Rattle.pl_undo.specs.Database.{Database}

pub invariant_of-self : goal.invariant_of-self
invariant_of-self c = stays c.self.inside.journal c.reserve_mark.new.self c.self.invariant (ap (λ (db : Database). db.objects) c.reserve_mark.ensures.now) c.reserve_mark.ensures.marks
