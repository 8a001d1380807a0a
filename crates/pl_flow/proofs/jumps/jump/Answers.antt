use Rattle.pl_engine.proofs.Joins.{lawful, refused, becomes, ended}
use Rattle.pl_engine.specs.Engines.{world}
use Rattle.pl_engine.specs.Texts.{do_bodies}
use Rattle.pl_flow.proofs.Asked.{asked_off, asked_on, asked_stopped}
use Rattle.pl_flow.proofs.Opened.{jump_done, jump_here, jump_next}
use Rattle.pl_flow.proofs.jumps.jump.Goals as goal
use Rattle.pl_flow.specs.Answered.{truth_of}
use Rattle.pl_engine.specs.pl_world.Statements.{runner_for}
use Rattle.pl_engine.specs.pl_world.World.{ends}
use Rattle.std.proofs.Common.{ap, sym, refl, rules, true, false}

pub returns-in_default-clause-is : goal.returns-in_default-clause-is
returns-in_default-clause-is g c =
    let law = lawful g.P.Port g.met.P.Port.none g.met.P.Port.joins g.met.P.Port.rises in
    let r = runner_for do_bodies c.args.runner.now.room in
    jump_done law r c.args.at c.args.engine.now c.args.port.now c.requires.fits c.args.jump c.args.label c.args.condition.now _ (search rules) c.jumped.ensures

pub returns-in_err-answer-clause-is : goal.returns-in_err-answer-clause-is
returns-in_err-answer-clause-is g c =
    let law = lawful g.P.Port g.met.P.Port.none g.met.P.Port.joins g.met.P.Port.rises in
    let r = runner_for do_bodies c.args.runner.now.room in
    let here = jump_here law r c.args.at c.args.engine.now c.args.port.now c.requires.fits c.args.jump c.args.label c.args.condition.now c.get.result.now (search rules) in
    refused c.ask.new.engine _ c.in_err-answer.field-0.0 c.from_residual.ensures (asked_stopped law truth_of (jump_next c.args.jump c.args.label) here c.in_err-answer.ensures.is)

pub returns-in-Ok-true-clause-is : goal.returns-in-Ok-true-clause-is
returns-in-Ok-true-clause-is g c =
    let law = lawful g.P.Port g.met.P.Port.none g.met.P.Port.joins g.met.P.Port.rises in
    let r = runner_for do_bodies c.args.runner.now.room in
    let here = jump_here law r c.args.at c.args.engine.now c.args.port.now c.requires.fits c.args.jump c.args.label c.args.condition.now c.get.result.now (search rules) in
    ended law (becomes law (asked_on law truth_of (jump_next c.args.jump c.args.label) here c.in_ok-answer.answer true c.in_ok-answer.ensures.is (search rules)) (ap (λ x. ends x (world c.ask.new.engine)) (sym c.jumped-in-Ok-true.ensures))) refl

pub returns-in-Ok-false-clause-is : goal.returns-in-Ok-false-clause-is
returns-in-Ok-false-clause-is g c =
    let law = lawful g.P.Port g.met.P.Port.none g.met.P.Port.joins g.met.P.Port.rises in
    let r = runner_for do_bodies c.args.runner.now.room in
    let here = jump_here law r c.args.at c.args.engine.now c.args.port.now c.requires.fits c.args.jump c.args.label c.args.condition.now c.get.result.now (search rules) in
    ended law (asked_on law truth_of (jump_next c.args.jump c.args.label) here c.in_ok-answer.answer false c.in_ok-answer.ensures.is (search rules)) refl

pub returns-in-Err-clause-is : goal.returns-in-Err-clause-is
returns-in-Err-clause-is g c =
    let law = lawful g.P.Port g.met.P.Port.none g.met.P.Port.joins g.met.P.Port.rises in
    let r = runner_for do_bodies c.args.runner.now.room in
    let here = jump_here law r c.args.at c.args.engine.now c.args.port.now c.requires.fits c.args.jump c.args.label c.args.condition.now c.get.result.now (search rules) in
    asked_off law truth_of (jump_next c.args.jump c.args.label) here c.in_ok-answer.answer _ c.in_ok-answer.ensures.is (search rules)
