use Rattle.std.proofs.Common.{◌∙◌, Option, Some, ap, refl, sym}
use Rattle.pl_base.specs.declared.operation.Op.TheVariants.{Next}
use Rattle.pl_journal.proofs.Opening.{raise_is, rest_done}
use Rattle.pl_tables.specs.Named.{next_named}
use Rattle.pl_undo.specs.Database.{Database}
use Rattle.pl_journal.proofs.applying.apply_next.Goals as goal

pub returns-clause-rest : goal.returns-clause-rest
returns-clause-rest c =
    rest_done (Next c.args.name c.args.next) c.args.store.now c.raise_next.new.self c.requires.rest
    (raise_is c.args.name c.args.next c.args.store.now.now (next_named c.args.name c.args.store.now.now.tables) refl (sym c.can_be_next.ensures ∙ c.if-not-can_be_next.false)
    ∙ ap (λ (d : Database). let o : Option Database = Some d in o) (sym c.raise_next.ensures.now))
    c.raise_next.ensures.last c.raise_next.ensures.marks
