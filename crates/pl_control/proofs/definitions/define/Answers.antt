use Rattle.std.proofs.Common.{List, Option, ℕ, ◌∙◌, refl, subst, sym, ap}
use Rattle.pl_base.specs.States.{FEATURE_NOT_SUPPORTED}
use Rattle.pl_codec.specs.Spelling.{is_define_text}
use Rattle.pl_control.proofs.Noting.{can_be_stored, cannot_be_stored, refused}
use Rattle.pl_control.proofs.definitions.define.Goals as goal
use Rattle.pl_control.specs.Noted.{defined}
use Rattle.pl_engine.proofs.Joins.{lawful}
use Rattle.pl_engine.specs.Answers.{Answers}
use Rattle.pl_engine.specs.Engines.{world}
use Rattle.pl_reading.specs.Defining.{stored_by}
use Rattle.pl_tree.specs.declared.command.Definition.{Definition}
use Rattle.pl_engine.specs.pl_world.Commands.{defining}

pub carry_out-requires-clause-alike : goal.carry_out-requires-clause-alike
carry_out-requires-clause-alike g c = c.requires.alike ∙ can_be_stored c.args.definition.now c.args.text (ap (λ (t : List ℕ). is_define_text t) (sym c.as_bytes.ensures) ∙ sym c.is_define_text.ensures ∙ c.if-not-is_define_text.false)

pub returns-then-not-is_define_text-clause-is : goal.returns-then-not-is_define_text-clause-is
returns-then-not-is_define_text-clause-is g c =
    let law = lawful g.P.Port g.met.P.Port.none g.met.P.Port.joins g.met.P.Port.rises in
    let w = world c.args.engine.now in
    let none = cannot_be_stored c.args.definition.now c.args.text (ap (λ (t : List ℕ). is_define_text t) (sym c.as_bytes.ensures) ∙ sym c.is_define_text.ensures ∙ c.if-not-is_define_text.true) in
    refused law c.args.at (stored_by c.args.definition.now c.args.text) c.args.text {old = c.args.engine.now} {new = c.args.engine.now} c.requires.fits FEATURE_NOT_SUPPORTED c.failure.result
    (ap (λ (d : Option Definition). defining d c.args.text w.changing w.database) none) refl c.failure.ensures

pub returns-clause-is : goal.returns-clause-is
returns-clause-is g c =
    subst (λ (d : Option Definition). Answers g.P.Port (defined c.args.at d c.args.text (world c.args.engine.now)) c.carry_out.result c.args.engine.now c.carry_out.new.engine c.args.port.now c.carry_out.new.port)
    (sym (can_be_stored c.args.definition.now c.args.text (ap (λ (t : List ℕ). is_define_text t) (sym c.as_bytes.ensures) ∙ sym c.is_define_text.ensures ∙ c.if-not-is_define_text.false))) c.carry_out.ensures.is
