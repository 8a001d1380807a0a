use Rattle.std.proofs.Common.{◌∙◌, ap, subst, sym}
use Rattle.pl_command.proofs.Defined.{as_reply, defined_done, defined_stopped}
use Rattle.pl_command.proofs.defining.carry_out.Goals as goal
use Rattle.pl_control.specs.Noted.{defined}
use Rattle.pl_control.specs.pl_engine.Answers.{Done, Stopped}
use Rattle.pl_control.specs.pl_engine.Engines.{world}
use Rattle.pl_world.specs.Meaning.{tag_of}
use Rattle.pl_print.specs.declared.reply.Tag.{Tag}
use Rattle.pl_reading.specs.Defining.{stored_by}
use Rattle.pl_world.specs.Errors.{Spot}
use Rattle.pl_world.specs.Sessions.{tagged, top}

pub returns-in-Ok-Ok-clause-is : goal.returns-in-Ok-Ok-clause-is
returns-in-Ok-Ok-clause-is g c =
    let d = stored_by c.args.definition.now c.args.source in
    let tag = tag_of c.args.definition.now in
    defined_done tag top d c.args.source c.in-Ok-Ok.field-0 c.tagged.result (c.tagged.ensures ∙ (ap (λ (t : Tag). tagged t) c.tag_of-tag.ensures ∙ sym (ap (as_reply tag) c.in-Ok-Ok.field-0-is)))
    (subst (λ (at : Spot). Done g.P.Port (defined at d c.args.source (world c.args.engine.now)) c.in-Ok-Ok.field-0 c.args.engine.now c.define.new.engine c.args.port.now c.define.new.port) c.top.ensures c.in-Ok-Ok.ensures.is)

pub returns-in-Ok-Err-clause-is : goal.returns-in-Ok-Err-clause-is
returns-in-Ok-Err-clause-is g c =
    let d = stored_by c.args.definition.now c.args.source in
    let tag = tag_of c.args.definition.now in
    defined_done tag top d c.args.source c.in-Ok-Err.field-0 c.failed.result (c.failed.ensures ∙ sym (ap (as_reply tag) c.in-Ok-Err.field-0-is))
    (subst (λ (at : Spot). Done g.P.Port (defined at d c.args.source (world c.args.engine.now)) c.in-Ok-Err.field-0 c.args.engine.now c.define.new.engine c.args.port.now c.define.new.port) c.top.ensures c.in-Ok-Err.ensures.is)

pub returns-in-Err-clause-is : goal.returns-in-Err-clause-is
returns-in-Err-clause-is g c =
    let d = stored_by c.args.definition.now c.args.source in
    defined_stopped (tag_of c.args.definition.now) top d c.args.source
    (subst (λ (at : Spot). Stopped g.P.Port (defined at d c.args.source (world c.args.engine.now)) c.in-Err.stop c.args.engine.now c.args.port.now c.define.new.port) c.top.ensures c.in-Err.ensures.is)
