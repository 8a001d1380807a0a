use Rattle.pl_engine.proofs.Joins.{lawful, refused, answered, ended}
use Rattle.pl_flow.proofs.Asked.{asked_off, asked_on, asked_stopped}
use Rattle.pl_loops.proofs.Opened.{round_next, tested_here}
use Rattle.pl_loops.proofs.loops.round.Goals as goal
use Rattle.pl_flow.specs.Answered.{truth_of}
use Rattle.pl_engine.specs.pl_world.Statements.{runner_for}
use Rattle.std.proofs.Common.{refl, rules, true, false}
use Rattle.pl_engine.specs.Texts.{do_bodies}

pub returns-in_err-answer-clause-is : goal.returns-in_err-answer-clause-is
returns-in_err-answer-clause-is g c =
    let law = lawful g.P.Port g.met.P.Port.none g.met.P.Port.joins g.met.P.Port.rises in
    let r = runner_for do_bodies c.args.runner.now.room in
    let here = tested_here law r c.args.at c.args.engine.now c.args.port.now c.requires.fits c.args.condition.now (round_next r c.args.at c.args.label.now c.args.body.now) in
    refused c.ask.new.engine _ c.in_err-answer.field-0.0 c.from_residual.ensures (asked_stopped law truth_of (round_next r c.args.at c.args.label.now c.args.body.now) here c.in_err-answer.ensures.is)

pub returns-in-Ok-true-clause-is : goal.returns-in-Ok-true-clause-is
returns-in-Ok-true-clause-is g c =
    let law = lawful g.P.Port g.met.P.Port.none g.met.P.Port.joins g.met.P.Port.rises in
    let r = runner_for do_bodies c.args.runner.now.room in
    let here = tested_here law r c.args.at c.args.engine.now c.args.port.now c.requires.fits c.args.condition.now (round_next r c.args.at c.args.label.now c.args.body.now) in
    answered law _ _ _ (asked_on law truth_of (round_next r c.args.at c.args.label.now c.args.body.now) here c.in_ok-answer.answer true c.in_ok-answer.ensures.is (search rules)) c.turn.ensures.is

pub returns-in-Ok-false-clause-is : goal.returns-in-Ok-false-clause-is
returns-in-Ok-false-clause-is g c =
    let law = lawful g.P.Port g.met.P.Port.none g.met.P.Port.joins g.met.P.Port.rises in
    let r = runner_for do_bodies c.args.runner.now.room in
    let here = tested_here law r c.args.at c.args.engine.now c.args.port.now c.requires.fits c.args.condition.now (round_next r c.args.at c.args.label.now c.args.body.now) in
    ended law (asked_on law truth_of (round_next r c.args.at c.args.label.now c.args.body.now) here c.in_ok-answer.answer false c.in_ok-answer.ensures.is (search rules)) refl

pub returns-in-Err-clause-is : goal.returns-in-Err-clause-is
returns-in-Err-clause-is g c =
    let law = lawful g.P.Port g.met.P.Port.none g.met.P.Port.joins g.met.P.Port.rises in
    let r = runner_for do_bodies c.args.runner.now.room in
    let here = tested_here law r c.args.at c.args.engine.now c.args.port.now c.requires.fits c.args.condition.now (round_next r c.args.at c.args.label.now c.args.body.now) in
    asked_off law truth_of (round_next r c.args.at c.args.label.now c.args.body.now) here c.in_ok-answer.answer _ c.in_ok-answer.ensures.is (search rules)
