use Rattle.std.proofs.Common.{ℕ, ◌++◌, ◌∷◌, [], Bool, Option, subst, sym}
use Rattle.pl_exec.specs.pl_journal.Journal.{AllApply}
use Rattle.pl_exec.specs.pl_journal.Operation.{apply_all}
use Rattle.pl_keeper.specs.Store.{stored}
use Rattle.pl_session.specs.Steps.{Reaches}
use Rattle.pl_session.proofs.Folding.{reaches_more, reaches_no_more, still_stopped}
use Rattle.pl_session.proofs.opening.apply_next.Goals as goal

pub returns-in_default-clause-reaches : goal.returns-in_default-clause-reaches
returns-in_default-clause-reaches c list reaches =
    let now = c.args.journal.now.now in
    subst (λ (o : Option ℕ). Reaches (list ++ stored c.args.batch ∷ []) now o) (sym c.in_default.is)
    (still_stopped list c.args.batch now c.in_default.field-0 (subst (λ (o : Option ℕ). Reaches list now o) c.in_default.is reaches))

pub returns-then-branch-clause-reaches : goal.returns-then-branch-clause-reaches
returns-then-branch-clause-reaches c list reaches =
    let old = c.args.journal.now.now in
    let new = c.apply_all.new.self.now in
    let done = subst (λ (b : Bool). AllApply b new (apply_all c.args.batch.ops.items old)) c.if-branch.true c.in_ok-apply_all.ensures.done in
    reaches_more list c.args.batch old new (subst (λ (o : Option ℕ). Reaches list old o) c.in-None.is reaches) done

pub returns-clause-reaches : goal.returns-clause-reaches
returns-clause-reaches c list reaches =
    let old = c.args.journal.now.now in
    let new = c.apply_all.new.self.now in
    let none = subst (λ (b : Bool). AllApply b new (apply_all c.args.batch.ops.items old)) c.if-branch.false c.in_ok-apply_all.ensures.done in
    reaches_no_more list c.args.batch old new (subst (λ (o : Option ℕ). Reaches list old o) c.in-None.is reaches) none
