use Rattle.std.proofs.Common.{List, subst, sym}
use Rattle.pl_catalog.specs.declared.object.Object.{Object}
use Rattle.pl_planned.proofs.journal.PlannedJournal.resolve_insert.Goals as goal
use Rattle.pl_plans.specs.Plans.{AreOver}

pub insert-requires : goal.insert-requires
insert-requires c = record { over = subst (λ (os : List Object). AreOver os c.self.inside.plans) (sym c.catalog-catalog.ensures) c.self.invariant.over }

pub invariant_of-self : goal.invariant_of-self
invariant_of-self c = record {
  over = subst (λ (os : List Object). AreOver os c.insert.new.self) c.catalog-catalog.ensures c.insert.ensures.over;
  marks = c.self.invariant.marks;
}
