use Rattle.std.proofs.Common.{◌≡◌, ◌∙◌, ◌++◌, ℕ, List, Option, None, Ok, ap, length, rules, subst, sym, true, vec_len}
use Rattle.pl_base.specs.declared.operation.Op.TheVariants.{Define}
use Rattle.pl_base.specs.declared.state.State.{State}
use Rattle.pl_codec.specs.ReadBack.{OpReadsBack}
use Rattle.pl_codec.specs.Spelling.{is_define_text, op_bytes}
use Rattle.pl_journal.specs.Definitions.{Behind, behind}
use Rattle.pl_journal.proofs.CarriedOut.{as_noticed, define_kept}
use Rattle.pl_journal.proofs.Opening.{is_text_of}
use Rattle.pl_journal.proofs.Writes.{refused_kept}
use Rattle.pl_define.specs.pl_typing.Resolved.{Resolved}
use Rattle.pl_journal.proofs.defining.define_object.Goals as goal

pub spell_define-requires : goal.spell_define-requires
spell_define-requires c = subst (λ (t : List ℕ). is_define_text t ≡ true) (sym c.as_bytes.ensures) (is_text_of c.args.definition.now c.args.text c.requires.text)

pub returns-in-Ok-None-clause-kept : goal.returns-in-Ok-None-clause-kept
returns-in-Ok-None-clause-kept c =
    define_kept c.args.payload.now.items c.args.store.now c.carry_out.new.store c.requires.kept c.args.definition.now c.args.text c.requires.text c.spell_define.new.payload.items
    (subst (λ (t : List ℕ). OpReadsBack (Define t)) c.as_bytes.ensures c.in_ok-spell_define.ensures.read_back)
    (c.in_ok-spell_define.ensures.ok ∙ ap (λ (t : List ℕ). c.args.payload.now.items ++ op_bytes (Define t)) c.as_bytes.ensures)
    None (c.in-Ok-None.ensures.redefines ∙ ap (λ (o : Option State). let r : Resolved Behind = Ok (behind c.carry_out.new.store.now o) in r) c.in-Ok-None.field-0-is)
    c.in-Ok-None.ensures.last c.in-Ok-None.ensures.marks

pub returns-in-Ok-Some-clause-kept : goal.returns-in-Ok-Some-clause-kept
returns-in-Ok-Some-clause-kept c =
    refused_kept c.args.payload.now.items c.spell_define.new.payload.items c.truncate.new.self.items (op_bytes (Define c.as_bytes.result.now)) c.len-size.result c.args.store.now c.carry_out.new.store c.requires.kept
    c.in_ok-spell_define.ensures.ok (let counts : length c.args.payload.now.items ≡ vec_len c.args.payload.now = search rules in c.len-size.ensures ∙ sym counts) c.truncate.ensures.items
    (as_noticed c.args.payload.now.items c.args.store.now c.carry_out.new.store c.requires.kept c.args.definition.now c.args.text c.requires.text c.in-Ok-Some.notice
    (c.in-Ok-Some.ensures.redefines ∙ ap (λ (o : Option State). let r : Resolved Behind = Ok (behind c.carry_out.new.store.now o) in r) c.in-Ok-Some.field-0-is))
    c.in-Ok-Some.ensures.last c.in-Ok-Some.ensures.marks
