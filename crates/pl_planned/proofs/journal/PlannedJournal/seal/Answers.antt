use Rattle.std.proofs.Common.{subst, sym}
use Rattle.pl_planned.proofs.Planning.{anew}
use Rattle.pl_planned.proofs.journal.PlannedJournal.seal.Goals as goal
use Rattle.pl_plans.specs.Plans.{AreOver}
use Rattle.pl_undo.specs.Database.{Database}

pub invariant_of-self : goal.invariant_of-self
invariant_of-self c =
    anew 0 c.seal.new.self (subst (λ (db : Database). AreOver db.objects c.self.inside.plans) (sym c.seal.ensures.now) c.self.invariant.over) c.seal.ensures.marks
