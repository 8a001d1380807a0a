use Rattle.pl_engine.proofs.Joins.{lawful, refused, answered, becomes, step}
use Rattle.pl_engine.specs.Engines.{world}
use Rattle.pl_engine.specs.Texts.{do_bodies}
use Rattle.pl_flow.proofs.Asked.{asked_off, asked_on, asked_stopped}
use Rattle.pl_loops.proofs.Opened.{first_bound, for_here}
use Rattle.pl_loops.proofs.numbers.for_numbers.Goals as goal
use Rattle.pl_flow.specs.Answered.{number_of}
use Rattle.std.proofs.lemmas.Int.{to_z-of_z}
use Rattle.std.specs.Int.{w32}
use Rattle.std.specs.Prelude.{FitsSigned}
use Rattle.pl_engine.specs.pl_world.Statements.{runner_for}
use Rattle.std.proofs.Common.{ap, sym, rules, ℤ}

pub returns-in_err-answer-clause-is : goal.returns-in_err-answer-clause-is
returns-in_err-answer-clause-is g c =
    let law = lawful g.P.Port g.met.P.Port.none g.met.P.Port.joins g.met.P.Port.rises in
    let r = runner_for do_bodies c.args.runner.now.room in
    let here = for_here law r c.args.at c.args.engine.now c.args.port.now c.requires.fits c.args.numbers.now.label c.args.numbers.now.variable c.args.numbers.now.is_reverse c.args.numbers.now.body.now c.args.numbers.now.first.now c.args.numbers.now.last.now c.args.numbers.now.step.now in
    refused c.ask.new.engine _ c.in_err-answer.field-0.0 c.from_residual.ensures (asked_stopped law number_of (first_bound r c.args.at c.args.numbers.now.label c.args.numbers.now.variable c.args.numbers.now.is_reverse c.args.numbers.now.body.now c.args.numbers.now.last.now c.args.numbers.now.step.now) here c.in_err-answer.ensures.is)

pub returns-in-Ok-clause-is : goal.returns-in-Ok-clause-is
returns-in-Ok-clause-is g c =
    let law = lawful g.P.Port g.met.P.Port.none g.met.P.Port.joins g.met.P.Port.rises in
    let r = runner_for do_bodies c.args.runner.now.room in
    let here = for_here law r c.args.at c.args.engine.now c.args.port.now c.requires.fits c.args.numbers.now.label c.args.numbers.now.variable c.args.numbers.now.is_reverse c.args.numbers.now.body.now c.args.numbers.now.first.now c.args.numbers.now.last.now c.args.numbers.now.step.now in
    let fits : FitsSigned w32 c.in-Ok.first = search rules in
    let f = to_z-of_z w32 c.in-Ok.first fits in
    let w = world c.ask.new.engine in
    answered law _ _ _ (becomes law (asked_on law number_of (first_bound r c.args.at c.args.numbers.now.label c.args.numbers.now.variable c.args.numbers.now.is_reverse c.args.numbers.now.body.now c.args.numbers.now.last.now c.args.numbers.now.step.now) here c.in_ok-answer.answer c.in-Ok.first c.in_ok-answer.ensures.is (search rules)) (ap (λ (z : ℤ). first_bound r c.args.at c.args.numbers.now.label c.args.numbers.now.variable c.args.numbers.now.is_reverse c.args.numbers.now.body.now c.args.numbers.now.last.now c.args.numbers.now.step.now z w) (sym f))) c.from.ensures.is

pub returns-in-Err-clause-is : goal.returns-in-Err-clause-is
returns-in-Err-clause-is g c =
    let law = lawful g.P.Port g.met.P.Port.none g.met.P.Port.joins g.met.P.Port.rises in
    let r = runner_for do_bodies c.args.runner.now.room in
    let here = for_here law r c.args.at c.args.engine.now c.args.port.now c.requires.fits c.args.numbers.now.label c.args.numbers.now.variable c.args.numbers.now.is_reverse c.args.numbers.now.body.now c.args.numbers.now.first.now c.args.numbers.now.last.now c.args.numbers.now.step.now in
    asked_off law number_of (first_bound r c.args.at c.args.numbers.now.label c.args.numbers.now.variable c.args.numbers.now.is_reverse c.args.numbers.now.body.now c.args.numbers.now.last.now c.args.numbers.now.step.now) here c.in_ok-answer.answer _ c.in_ok-answer.ensures.is (search rules)
