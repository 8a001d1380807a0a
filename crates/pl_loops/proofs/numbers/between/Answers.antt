use Rattle.pl_engine.proofs.Joins.{lawful, refused, answered, becomes, step}
use Rattle.pl_engine.specs.Engines.{world}
use Rattle.pl_engine.specs.Texts.{do_bodies}
use Rattle.pl_flow.proofs.Asked.{asked_off, asked_on, asked_stopped}
use Rattle.pl_loops.proofs.Opened.{by_next, over_next, stride_here, stride_one}
use Rattle.pl_loops.proofs.numbers.between.Goals as goal
use Rattle.pl_flow.specs.Answered.{number_of}
use Rattle.pl_engine.specs.pl_world.Control.{positive}
use Rattle.std.proofs.lemmas.Int.{to_z-of_z}
use Rattle.std.specs.Int.{w32}
use Rattle.std.specs.Prelude.{FitsSigned}
use Rattle.pl_engine.specs.pl_world.Statements.{runner_for}
use Rattle.std.proofs.Common.{◌∙◌, ap, sym, rules, pos, ℤ, of_z, to_z}

pub returns-in_default-clause-is : goal.returns-in_default-clause-is
returns-in_default-clause-is g c =
    let law = lawful g.P.Port g.met.P.Port.none g.met.P.Port.joins g.met.P.Port.rises in
    let r = runner_for do_bodies c.args.runner.now.room in
    let f = to_z-of_z w32 c.args.first c.ranges.first in
    let l = to_z-of_z w32 c.args.last c.ranges.last in
    let way = stride_one law r c.args.at c.args.engine.now c.args.port.now c.requires.fits c.args.numbers.now.step.now (over_next r c.args.at c.args.numbers.now.label c.args.numbers.now.variable c.args.numbers.now.is_reverse c.args.numbers.now.body.now c.args.first c.args.last) (search rules) in
    answered law _ _ _ (becomes law way (ap (λ (z : ℤ). positive (pos 1) c.args.at (world c.args.engine.now) (over_next r c.args.at c.args.numbers.now.label c.args.numbers.now.variable c.args.numbers.now.is_reverse c.args.numbers.now.body.now z c.args.last)) (sym f)
    ∙ ap (λ (z : ℤ). positive (pos 1) c.args.at (world c.args.engine.now) (over_next r c.args.at c.args.numbers.now.label c.args.numbers.now.variable c.args.numbers.now.is_reverse c.args.numbers.now.body.now (to_z w32 (of_z w32 c.args.first)) z)) (sym l))) c.stepping.ensures.is

pub returns-in_err-answer-clause-is : goal.returns-in_err-answer-clause-is
returns-in_err-answer-clause-is g c =
    let law = lawful g.P.Port g.met.P.Port.none g.met.P.Port.joins g.met.P.Port.rises in
    let r = runner_for do_bodies c.args.runner.now.room in
    let here = stride_here law r c.args.at c.args.engine.now c.args.port.now c.requires.fits c.args.numbers.now.step.now c.get.result.now (over_next r c.args.at c.args.numbers.now.label c.args.numbers.now.variable c.args.numbers.now.is_reverse c.args.numbers.now.body.now c.args.first c.args.last) (search rules) in
    refused c.ask.new.engine _ c.in_err-answer.field-0.0 c.from_residual.ensures (asked_stopped law number_of (by_next r c.args.at c.args.numbers.now.label c.args.numbers.now.variable c.args.numbers.now.is_reverse c.args.numbers.now.body.now c.args.first c.args.last) here c.in_err-answer.ensures.is)

pub returns-in-Ok-clause-is : goal.returns-in-Ok-clause-is
returns-in-Ok-clause-is g c =
    let law = lawful g.P.Port g.met.P.Port.none g.met.P.Port.joins g.met.P.Port.rises in
    let r = runner_for do_bodies c.args.runner.now.room in
    let here = stride_here law r c.args.at c.args.engine.now c.args.port.now c.requires.fits c.args.numbers.now.step.now c.get.result.now (over_next r c.args.at c.args.numbers.now.label c.args.numbers.now.variable c.args.numbers.now.is_reverse c.args.numbers.now.body.now c.args.first c.args.last) (search rules) in
    let f = to_z-of_z w32 c.args.first c.ranges.first in
    let l = to_z-of_z w32 c.args.last c.ranges.last in
    let fits : FitsSigned w32 c.in-Ok.by = search rules in
    let b = to_z-of_z w32 c.in-Ok.by fits in
    let w = world c.ask.new.engine in
    answered law _ _ _ (becomes law (asked_on law number_of (by_next r c.args.at c.args.numbers.now.label c.args.numbers.now.variable c.args.numbers.now.is_reverse c.args.numbers.now.body.now c.args.first c.args.last) here c.in_ok-answer.answer c.in-Ok.by c.in_ok-answer.ensures.is (search rules)) (ap (λ (z : ℤ). by_next r c.args.at c.args.numbers.now.label c.args.numbers.now.variable c.args.numbers.now.is_reverse c.args.numbers.now.body.now z c.args.last c.in-Ok.by w) (sym f)
    ∙ (ap (λ (z : ℤ). by_next r c.args.at c.args.numbers.now.label c.args.numbers.now.variable c.args.numbers.now.is_reverse c.args.numbers.now.body.now (to_z w32 (of_z w32 c.args.first)) z c.in-Ok.by w) (sym l) ∙ ap (λ (z : ℤ). by_next r c.args.at c.args.numbers.now.label c.args.numbers.now.variable c.args.numbers.now.is_reverse c.args.numbers.now.body.now (to_z w32 (of_z w32 c.args.first)) (to_z w32 (of_z w32 c.args.last)) z w) (sym b)))) c.stepping-in-Ok.ensures.is

pub returns-in-Err-clause-is : goal.returns-in-Err-clause-is
returns-in-Err-clause-is g c =
    let law = lawful g.P.Port g.met.P.Port.none g.met.P.Port.joins g.met.P.Port.rises in
    let r = runner_for do_bodies c.args.runner.now.room in
    let here = stride_here law r c.args.at c.args.engine.now c.args.port.now c.requires.fits c.args.numbers.now.step.now c.get.result.now (over_next r c.args.at c.args.numbers.now.label c.args.numbers.now.variable c.args.numbers.now.is_reverse c.args.numbers.now.body.now c.args.first c.args.last) (search rules) in
    asked_off law number_of (by_next r c.args.at c.args.numbers.now.label c.args.numbers.now.variable c.args.numbers.now.is_reverse c.args.numbers.now.body.now c.args.first c.args.last) here c.in_ok-answer.answer _ c.in_ok-answer.ensures.is (search rules)
