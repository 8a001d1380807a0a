use Rattle.std.proofs.Common.{Bool, false, refl, rules, true}
use Rattle.pl_asking.proofs.of_pl_engine.Joins.{answered, ended, lawful, refused}
use Rattle.pl_asking.specs.pl_engine.Texts.{do_bodies}
use Rattle.pl_asking.proofs.of_pl_flow.Asked.{asked_off, asked_on, asked_stopped}
use Rattle.pl_asking.specs.pl_flow.Answered.{truth_of}
use Rattle.pl_raise.proofs.Told.{assert_way}
use Rattle.pl_raise.proofs.asserting.assert.Goals as goal
use Rattle.pl_world.specs.Raising.{unless_true}
use Rattle.pl_world.specs.Statements.{runner_for}
use Rattle.pl_world.specs.World.{Ran, World}
use Rattle.pl_world.specs.declared.outcome.Outcome.{Outcome}

pub returns-in_err-answer-clause-is : goal.returns-in_err-answer-clause-is
returns-in_err-answer-clause-is g c =
    let law = lawful g.P.Port g.met.P.Port.none g.met.P.Port.joins g.met.P.Port.rises in
    let r = runner_for do_bodies c.args.calls.now.room in
    let here = assert_way law r c.args.at c.args.engine.now c.args.port.now c.requires.fits c.args.condition.now c.args.message.now in
    let next : Bool → World → Ran Outcome = λ is w. unless_true is r c.args.at c.args.message.now w in
    refused c.test.new.engine _ c.in_err-answer.field-0.0 c.from_residual.ensures (asked_stopped law truth_of next here c.in_err-answer.ensures.is)

pub returns-in-Ok-true-clause-is : goal.returns-in-Ok-true-clause-is
returns-in-Ok-true-clause-is g c =
    let law = lawful g.P.Port g.met.P.Port.none g.met.P.Port.joins g.met.P.Port.rises in
    let r = runner_for do_bodies c.args.calls.now.room in
    let here = assert_way law r c.args.at c.args.engine.now c.args.port.now c.requires.fits c.args.condition.now c.args.message.now in
    let next : Bool → World → Ran Outcome = λ is w. unless_true is r c.args.at c.args.message.now w in
    ended law (asked_on law truth_of next here c.in_ok-answer.answer true c.in_ok-answer.ensures.is (search rules)) refl

pub returns-in-Ok-false-clause-is : goal.returns-in-Ok-false-clause-is
returns-in-Ok-false-clause-is g c =
    let law = lawful g.P.Port g.met.P.Port.none g.met.P.Port.joins g.met.P.Port.rises in
    let r = runner_for do_bodies c.args.calls.now.room in
    let here = assert_way law r c.args.at c.args.engine.now c.args.port.now c.requires.fits c.args.condition.now c.args.message.now in
    let next : Bool → World → Ran Outcome = λ is w. unless_true is r c.args.at c.args.message.now w in
    answered law _ _ _ (asked_on law truth_of next here c.in_ok-answer.answer false c.in_ok-answer.ensures.is (search rules)) c.fail.ensures.is

pub returns-in-Err-clause-is : goal.returns-in-Err-clause-is
returns-in-Err-clause-is g c =
    let law = lawful g.P.Port g.met.P.Port.none g.met.P.Port.joins g.met.P.Port.rises in
    let r = runner_for do_bodies c.args.calls.now.room in
    let here = assert_way law r c.args.at c.args.engine.now c.args.port.now c.requires.fits c.args.condition.now c.args.message.now in
    let next : Bool → World → Ran Outcome = λ is w. unless_true is r c.args.at c.args.message.now w in
    asked_off law truth_of next here c.in_ok-answer.answer _ c.in_ok-answer.ensures.is (search rules)
