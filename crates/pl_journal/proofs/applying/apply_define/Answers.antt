use Rattle.std.proofs.Common.{◌≡◌, ◌∙◌, ℕ, List, Option, Some, ap, sym}
use Rattle.pl_base.specs.declared.operation.Op.TheVariants.{Define}
use Rattle.pl_journal.proofs.Opening.{define_done, rest_done}
use Rattle.pl_define.specs.pl_reading.Computed.{definition_in}
use Rattle.pl_tree.specs.declared.command.Definition.{Definition}
use Rattle.pl_undo.specs.Database.{Database}
use Rattle.pl_journal.proofs.applying.apply_define.Goals as goal

pub returns-in-Ok-clause-rest : goal.returns-in-Ok-clause-rest
returns-in-Ok-clause-rest c =
    let reads : definition_in c.args.text ≡ Some c.get.result.now =
    ap (λ (t : List ℕ). definition_in t) (sym c.as_bytes.ensures)
    ∙ (sym c.in_ok-definition.ensures ∙ (c.in-Some.is ∙ ap (λ (x : Definition). let o : Option Definition = Some x in o) (sym (c.get.ensures ∙ c.new-definition.ensures)))) in
    rest_done (Define c.args.text) c.args.store.now c.seal.new.self c.requires.rest
    (define_done c.get.result.now c.args.text c.args.store.now.now reads c.carry_out.new.store.now c.in-Ok.field-0 c.in-Ok.ensures.redefines
    ∙ ap (λ (d : Database). let o : Option Database = Some d in o) (sym c.seal.ensures.now))
    (c.seal.ensures.last ∙ sym c.seal.ensures.now) c.seal.ensures.marks
