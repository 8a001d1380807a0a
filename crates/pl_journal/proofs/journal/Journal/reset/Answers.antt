use Rattle.std.proofs.Common.{◌∙◌, subst, sym}
use Rattle.pl_journal.specs.Sound.{IsSound}
use Rattle.pl_journal.proofs.Fronts.{unmarked}
use Rattle.pl_journal.proofs.Steps.{kept_at_rest}
use Rattle.pl_undo.specs.Database.{Database}
use Rattle.pl_journal.proofs.journal.Journal.reset.Goals as goal

pub invariant_of-self : goal.invariant_of-self
invariant_of-self c =
    unmarked c.clear.new.self.items c.clear-2.new.self.items c.reset.new.self
    (kept_at_rest c.clear.new.self.items c.reset.new.self c.clear.ensures.items (subst (λ (d : Database). IsSound d) (sym c.reset.ensures.now) c.self.invariant.kept.last) (c.reset.ensures.last ∙ sym c.reset.ensures.now))
    c.clear-2.ensures.items c.reset.ensures.marks
