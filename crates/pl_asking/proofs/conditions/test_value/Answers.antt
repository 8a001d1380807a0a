use Rattle.std.proofs.Common.{refl, rules}
use Rattle.pl_asking.proofs.Valued.{test_here, truth_next}
use Rattle.pl_asking.proofs.conditions.test_value.Goals as goal
use Rattle.pl_asking.specs.Values.{value_of}
use Rattle.pl_calling.proofs.of_pl_engine.Joins.{acted, before, lawful, refused, stopped}
use Rattle.pl_calling.specs.pl_engine.Texts.{do_bodies}
use Rattle.pl_flow.proofs.Asked.{asked_off, asked_on, asked_stopped}
use Rattle.pl_world.specs.Statements.{runner_for}

pub returns-in_err-answer-clause-is : goal.returns-in_err-answer-clause-is
returns-in_err-answer-clause-is g c =
    let law = lawful g.P.Port g.met.P.Port.none g.met.P.Port.joins g.met.P.Port.rises in
    let r = runner_for do_bodies c.args.calls.now.room in
    let here = test_here law r c.args.at c.args.engine.now c.args.port.now c.requires.fits c.args.e.now in
    refused c.value.new.engine _ c.in_err-answer.field-0.0 c.from_residual.ensures (asked_stopped law value_of (truth_next c.args.at) here c.in_err-answer.ensures.is)

pub returns-in_err-as_truth-in-Ok-clause-is : goal.returns-in_err-as_truth-in-Ok-clause-is
returns-in_err-as_truth-in-Ok-clause-is g c =
    let law = lawful g.P.Port g.met.P.Port.none g.met.P.Port.joins g.met.P.Port.rises in
    let r = runner_for do_bodies c.args.calls.now.room in
    let here = test_here law r c.args.at c.args.engine.now c.args.port.now c.requires.fits c.args.e.now in
    let on = asked_on law value_of (truth_next c.args.at) here c.in_ok-answer.answer c.in-Ok.v c.in_ok-answer.ensures.is (search rules) in
    refused _ _ _ c.from_residual-in_err-as_truth-in-Ok.ensures (stopped law on (before law refl))

pub returns-in_ok-as_truth-in-Ok-clause-is : goal.returns-in_ok-as_truth-in-Ok-clause-is
returns-in_ok-as_truth-in-Ok-clause-is g c =
    let law = lawful g.P.Port g.met.P.Port.none g.met.P.Port.joins g.met.P.Port.rises in
    let r = runner_for do_bodies c.args.calls.now.room in
    let here = test_here law r c.args.at c.args.engine.now c.args.port.now c.requires.fits c.args.e.now in
    let on = asked_on law value_of (truth_next c.args.at) here c.in_ok-answer.answer c.in-Ok.v c.in_ok-answer.ensures.is (search rules) in
    acted law on c.in_ok-as_truth-in-Ok.ensures

pub returns-in-Err-clause-is : goal.returns-in-Err-clause-is
returns-in-Err-clause-is g c =
    let law = lawful g.P.Port g.met.P.Port.none g.met.P.Port.joins g.met.P.Port.rises in
    let r = runner_for do_bodies c.args.calls.now.room in
    let here = test_here law r c.args.at c.args.engine.now c.args.port.now c.requires.fits c.args.e.now in
    asked_off law value_of (truth_next c.args.at) here c.in_ok-answer.answer _ c.in_ok-answer.ensures.is (search rules)
