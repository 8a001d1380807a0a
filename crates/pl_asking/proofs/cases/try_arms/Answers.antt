use Rattle.std.proofs.Common.{◌∙◌, List, ap, false, refl, rules, sym, true}
use Rattle.pl_asking.proofs.Tried.{arm_here, arm_next, arms_end}
use Rattle.pl_asking.proofs.cases.try_arms.Goals as goal
use Rattle.pl_bodies.specs.declared.statement.Statement.{Statement}
use Rattle.pl_calling.proofs.of_pl_engine.Joins.{answered, becomes, lawful, refused, start}
use Rattle.pl_calling.specs.pl_engine.Engines.{world}
use Rattle.pl_calling.specs.pl_engine.Texts.{do_bodies}
use Rattle.pl_flow.proofs.Asked.{asked_off, asked_on, asked_stopped}
use Rattle.pl_flow.specs.Answered.{truth_of}
use Rattle.pl_world.specs.Control.{arms_tried}
use Rattle.pl_world.specs.Running.{all}
use Rattle.pl_world.specs.Statements.{runner_for}

pub loop-arm-init : goal.loop-arm-init
loop-arm-init g c =
    let law = lawful g.P.Port g.met.P.Port.none g.met.P.Port.joins g.met.P.Port.rises in
    let r = runner_for do_bodies c.args.runner.now.room in
    record {
      way = start law (arms_tried r c.args.at c.args.ty.now c.args.operand.now c.args.arms.now c.args.otherwise.now (world c.args.engine.now)) c.args.engine.now c.args.port.now c.requires.fits;
      keeps = refl;
    }

pub returns-in_err-answer-clause-is : goal.returns-in_err-answer-clause-is
returns-in_err-answer-clause-is g c =
    let law = lawful g.P.Port g.met.P.Port.none g.met.P.Port.joins g.met.P.Port.rises in
    let r = runner_for do_bodies c.args.runner.now.room in
    let here = arm_here r c.args.at c.args.ty.now c.args.operand.now c.args.otherwise.now law c.args.arms.now _ c.loop-arm.invariant.way _ c.from_ref.result.now c.as_slice-values.result.now c.loop-arm-test.true c.arm-item.is c.from_ref.ensures.value c.as_slice-values.ensures in
    refused c.match_operand.new.engine _ c.in_err-answer.field-0.0 c.from_residual.ensures (asked_stopped law truth_of (arm_next r c.args.at c.args.ty.now c.args.operand.now c.args.otherwise.now _ _) here c.in_err-answer.ensures.is)

pub returns-in-Ok-true-clause-is : goal.returns-in-Ok-true-clause-is
returns-in-Ok-true-clause-is g c =
    let law = lawful g.P.Port g.met.P.Port.none g.met.P.Port.joins g.met.P.Port.rises in
    let r = runner_for do_bodies c.args.runner.now.room in
    let here = arm_here r c.args.at c.args.ty.now c.args.operand.now c.args.otherwise.now law c.args.arms.now _ c.loop-arm.invariant.way _ c.from_ref.result.now c.as_slice-values.result.now c.loop-arm-test.true c.arm-item.is c.from_ref.ensures.value c.as_slice-values.ensures in
    answered law _ _ _ (becomes law (asked_on law truth_of (arm_next r c.args.at c.args.ty.now c.args.operand.now c.args.otherwise.now _ _) here c.in_ok-answer.answer true c.in_ok-answer.ensures.is (search rules)) (ap (λ (ss : List Statement). all r ss (world c.match_operand.new.engine)) (sym c.as_slice.ensures))) c.all.ensures.is

pub returns-in-Err-clause-is : goal.returns-in-Err-clause-is
returns-in-Err-clause-is g c =
    let law = lawful g.P.Port g.met.P.Port.none g.met.P.Port.joins g.met.P.Port.rises in
    let r = runner_for do_bodies c.args.runner.now.room in
    let here = arm_here r c.args.at c.args.ty.now c.args.operand.now c.args.otherwise.now law c.args.arms.now _ c.loop-arm.invariant.way _ c.from_ref.result.now c.as_slice-values.result.now c.loop-arm-test.true c.arm-item.is c.from_ref.ensures.value c.as_slice-values.ensures in
    asked_off law truth_of (arm_next r c.args.at c.args.ty.now c.args.operand.now c.args.otherwise.now _ _) here c.in_ok-answer.answer _ c.in_ok-answer.ensures.is (search rules)

pub loop-arm-preserved : goal.loop-arm-preserved
loop-arm-preserved g c =
    let law = lawful g.P.Port g.met.P.Port.none g.met.P.Port.joins g.met.P.Port.rises in
    let r = runner_for do_bodies c.args.runner.now.room in
    let here = arm_here r c.args.at c.args.ty.now c.args.operand.now c.args.otherwise.now law c.args.arms.now _ c.loop-arm.invariant.way _ c.from_ref.result.now c.as_slice-values.result.now c.loop-arm-test.true c.arm-item.is c.from_ref.ensures.value c.as_slice-values.ensures in
    record {
      way = asked_on law truth_of (arm_next r c.args.at c.args.ty.now c.args.operand.now c.args.otherwise.now _ _) here c.in_ok-answer.answer false c.in_ok-answer.ensures.is (search rules);
      keeps = c.in_ok-answer.ensures.keeps ∙ c.loop-arm.invariant.keeps;
    }

pub returns-clause-is : goal.returns-clause-is
returns-clause-is g c =
    let law = lawful g.P.Port g.met.P.Port.none g.met.P.Port.joins g.met.P.Port.rises in
    let r = runner_for do_bodies c.args.runner.now.room in
    answered law _ _ _ (arms_end r c.args.at c.args.ty.now c.args.operand.now c.args.otherwise.now law c.args.arms.now _ c.loop-arm.invariant.way c.loop-arm-test.false) c.not_found.ensures.is
