use Rattle.std.proofs.Common.{List, subst, sym}
use Rattle.pl_catalog.specs.declared.object.Object.{Object}
use Rattle.pl_planned.proofs.journal.PlannedJournal.resolve_query.Goals as goal
use Rattle.pl_plans.specs.Plans.{AreOver}

pub query-requires : goal.query-requires
query-requires c = record { over = subst (λ (os : List Object). AreOver os c.self.inside.plans) (sym c.catalog-catalog.ensures) c.self.invariant.over }

pub invariant_of-self : goal.invariant_of-self
invariant_of-self c = record {
  over = subst (λ (os : List Object). AreOver os c.query.new.self) c.catalog-catalog.ensures c.query.ensures.over;
  marks = c.self.invariant.marks;
}
