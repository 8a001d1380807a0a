use Rattle.pl_engine.proofs.Joins.{lawful, refused, acted, ended}
use Rattle.pl_flow.proofs.Asked.{asked_off, asked_on, asked_stopped}
use Rattle.pl_loops.proofs.Opened.{last_next, tested_here}
use Rattle.pl_loops.proofs.loops.no_round.Goals as goal
use Rattle.pl_flow.specs.Answered.{truth_of}
use Rattle.pl_engine.specs.pl_world.Statements.{runner_for}
use Rattle.std.proofs.Common.{refl, rules, true, false}
use Rattle.pl_engine.specs.Texts.{do_bodies}

pub returns-in_err-answer-clause-is : goal.returns-in_err-answer-clause-is
returns-in_err-answer-clause-is g c =
    let law = lawful g.P.Port g.met.P.Port.none g.met.P.Port.joins g.met.P.Port.rises in
    let r = runner_for do_bodies c.args.runner.now.room in
    let here = tested_here law r c.args.at c.args.engine.now c.args.port.now c.requires.fits c.args.condition.now (last_next c.args.at) in
    refused c.ask.new.engine _ c.in_err-answer.field-0.0 c.from_residual.ensures (asked_stopped law truth_of (last_next c.args.at) here c.in_err-answer.ensures.is)

pub returns-in-Ok-true-clause-is : goal.returns-in-Ok-true-clause-is
returns-in-Ok-true-clause-is g c =
    let law = lawful g.P.Port g.met.P.Port.none g.met.P.Port.joins g.met.P.Port.rises in
    let r = runner_for do_bodies c.args.runner.now.room in
    let here = tested_here law r c.args.at c.args.engine.now c.args.port.now c.requires.fits c.args.condition.now (last_next c.args.at) in
    acted law (asked_on law truth_of (last_next c.args.at) here c.in_ok-answer.answer true c.in_ok-answer.ensures.is (search rules)) c.raise.ensures

pub returns-in-Ok-false-clause-is : goal.returns-in-Ok-false-clause-is
returns-in-Ok-false-clause-is g c =
    let law = lawful g.P.Port g.met.P.Port.none g.met.P.Port.joins g.met.P.Port.rises in
    let r = runner_for do_bodies c.args.runner.now.room in
    let here = tested_here law r c.args.at c.args.engine.now c.args.port.now c.requires.fits c.args.condition.now (last_next c.args.at) in
    ended law (asked_on law truth_of (last_next c.args.at) here c.in_ok-answer.answer false c.in_ok-answer.ensures.is (search rules)) refl

pub returns-in-Err-clause-is : goal.returns-in-Err-clause-is
returns-in-Err-clause-is g c =
    let law = lawful g.P.Port g.met.P.Port.none g.met.P.Port.joins g.met.P.Port.rises in
    let r = runner_for do_bodies c.args.runner.now.room in
    let here = tested_here law r c.args.at c.args.engine.now c.args.port.now c.requires.fits c.args.condition.now (last_next c.args.at) in
    asked_off law truth_of (last_next c.args.at) here c.in_ok-answer.answer _ c.in_ok-answer.ensures.is (search rules)
