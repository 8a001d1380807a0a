use Rattle.std.proofs.Common.{◌∙◌, Option, Some, ap, sym}
use Rattle.pl_base.specs.declared.operation.Op.TheVariants.{Remove}
use Rattle.pl_journal.proofs.Opening.{rest_done}
use Rattle.pl_journal.proofs.Steps.{remove_is}
use Rattle.pl_undo.specs.Database.{Database}
use Rattle.pl_journal.proofs.applying.apply_remove.Goals as goal

pub returns-clause-rest : goal.returns-clause-rest
returns-clause-rest c =
    rest_done (Remove c.args.name c.args.id) c.args.store.now c.seal.new.self c.requires.rest
    (remove_is c.args.store.now.now c.args.name c.args.id (sym c.has_row.ensures ∙ c.if-not-has_row.false)
    ∙ ap (λ (d : Database). let o : Option Database = Some d in o) (sym (c.seal.ensures.now ∙ c.in_ok-remove.ensures.ok)))
    (c.seal.ensures.last ∙ sym c.seal.ensures.now) c.seal.ensures.marks
