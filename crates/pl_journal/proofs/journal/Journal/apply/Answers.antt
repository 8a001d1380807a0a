use Rattle.std.proofs.Common.{◌≡◌, ◌∙◌, [], IfOk, ap, subst, sym}
use Rattle.pl_journal.specs.Journal.{Becomes}
use Rattle.pl_journal.specs.Operation.{apply}
use Rattle.pl_journal.proofs.Fronts.{none_left, unmarked}
use Rattle.pl_journal.proofs.Steps.{kept_at_rest}
use Rattle.pl_undo.specs.Store.{Stored}
use Rattle.pl_journal.proofs.journal.Journal.apply.Goals as goal

pub apply_to-requires : goal.apply_to-requires
apply_to-requires c = record {
  rest = record {
    sound = c.self.invariant.kept.now;
    last = ap (λ (s : Stored). s.last) c.self.view_is ∙ (c.requires.settled ∙ sym (ap (λ (s : Stored). s.now) c.self.view_is));
    marks = ap (λ (s : Stored). s.marks) c.self.view_is ∙ c.requires.unmarked;
  };
}

pub invariant_of-self : goal.invariant_of-self
invariant_of-self c =
    let none : c.self.inside.store.marks ≡ [] = ap (λ (s : Stored). s.marks) c.self.view_is ∙ c.requires.unmarked in
    unmarked c.clear.new.self.items c.self.inside.sizes.items c.apply_to.new.store
    (kept_at_rest c.clear.new.self.items c.apply_to.new.store c.clear.ensures.items c.apply_to.ensures.rest.sound c.apply_to.ensures.rest.last)
    (none_left c.self.inside.store.last c.self.inside.payload.items 0 c.self.inside.sizes.items c.self.inside.store.marks c.self.invariant.fronts none) c.apply_to.ensures.rest.marks

pub returns-clause-done : goal.returns-clause-done
returns-clause-done c = subst (λ (s : Stored). IfOk c.apply_to.result (λ done. Becomes done s.now c.apply_to.new.store.now (apply c.args.op s.now))) c.self.view_is c.apply_to.ensures.done

pub returns-clause-settled : goal.returns-clause-settled
returns-clause-settled c = c.apply_to.ensures.rest.last

pub returns-clause-unmarked : goal.returns-clause-unmarked
returns-clause-unmarked c = c.apply_to.ensures.rest.marks
