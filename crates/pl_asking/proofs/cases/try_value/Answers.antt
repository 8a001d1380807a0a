use Rattle.std.proofs.Common.{ap, rules, sym}
use Rattle.pl_asking.proofs.Tried.{operand_here, operand_next}
use Rattle.pl_asking.proofs.cases.try_value.Goals as goal
use Rattle.pl_asking.specs.Values.{value_of}
use Rattle.pl_base.specs.declared.types.Ty.{Ty}
use Rattle.pl_calling.proofs.of_pl_engine.Joins.{answered, becomes, lawful, refused}
use Rattle.pl_calling.specs.pl_engine.Engines.{world}
use Rattle.pl_calling.specs.pl_engine.Texts.{do_bodies}
use Rattle.pl_flow.proofs.Asked.{asked_off, asked_on, asked_stopped}
use Rattle.pl_typing.specs.Typing.{as_text_type}
use Rattle.pl_world.specs.Control.{arms_tried}
use Rattle.pl_world.specs.Statements.{runner_for}

pub returns-in_err-answer-clause-is : goal.returns-in_err-answer-clause-is
returns-in_err-answer-clause-is g c =
    let law = lawful g.P.Port g.met.P.Port.none g.met.P.Port.joins g.met.P.Port.rises in
    let r = runner_for do_bodies c.args.runner.now.room in
    let t = as_text_type c.args.operand.now.typed.ty in
    let here = operand_here law r c.args.at t c.args.arms.now c.args.otherwise.now c.args.operand.now c.args.engine.now c.args.port.now c.requires.fits in
    refused c.evaluate.new.engine _ c.in_err-answer.field-0.0 c.from_residual.ensures (asked_stopped law value_of (operand_next r c.args.at t c.args.arms.now c.args.otherwise.now) here c.in_err-answer.ensures.is)

pub returns-in-Ok-clause-is : goal.returns-in-Ok-clause-is
returns-in-Ok-clause-is g c =
    let law = lawful g.P.Port g.met.P.Port.none g.met.P.Port.joins g.met.P.Port.rises in
    let r = runner_for do_bodies c.args.runner.now.room in
    let t = as_text_type c.args.operand.now.typed.ty in
    let here = operand_here law r c.args.at t c.args.arms.now c.args.otherwise.now c.args.operand.now c.args.engine.now c.args.port.now c.requires.fits in
    let on = asked_on law value_of (operand_next r c.args.at t c.args.arms.now c.args.otherwise.now) here c.in_ok-answer.answer c.in-Ok.v c.in_ok-answer.ensures.is (search rules) in
    answered law _ _ _ (becomes law on (ap (λ (t : Ty). arms_tried r c.args.at t c.in-Ok.v c.args.arms.now c.args.otherwise.now (world c.evaluate.new.engine)) (sym c.as_text_type-ty.ensures))) c.try_arms.ensures.is

pub returns-in-Err-clause-is : goal.returns-in-Err-clause-is
returns-in-Err-clause-is g c =
    let law = lawful g.P.Port g.met.P.Port.none g.met.P.Port.joins g.met.P.Port.rises in
    let r = runner_for do_bodies c.args.runner.now.room in
    let t = as_text_type c.args.operand.now.typed.ty in
    let here = operand_here law r c.args.at t c.args.arms.now c.args.otherwise.now c.args.operand.now c.args.engine.now c.args.port.now c.requires.fits in
    asked_off law value_of (operand_next r c.args.at t c.args.arms.now c.args.otherwise.now) here c.in_ok-answer.answer _ c.in_ok-answer.ensures.is (search rules)
