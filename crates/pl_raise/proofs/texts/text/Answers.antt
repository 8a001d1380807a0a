use Rattle.std.proofs.Common.{refl, rules}
use Rattle.pl_asking.proofs.of_pl_engine.Joins.{before, lawful, stopped}
use Rattle.pl_asking.specs.pl_engine.Engines.{world}
use Rattle.pl_asking.specs.pl_engine.Texts.{do_bodies}
use Rattle.pl_raise.proofs.Found.{refused_there, there_found}
use Rattle.pl_raise.proofs.Told.{text_off, text_on, text_stopped}
use Rattle.pl_raise.proofs.texts.text.Goals as goal
use Rattle.pl_raise.specs.Texts.{text_for}
use Rattle.pl_world.specs.Conversions.{settled}
use Rattle.pl_world.specs.Raising.{texted}
use Rattle.pl_world.specs.Statements.{runner_for}

pub returns-in_err-answer-clause-is : goal.returns-in_err-answer-clause-is
returns-in_err-answer-clause-is g c =
    let law = lawful g.P.Port g.met.P.Port.none g.met.P.Port.joins g.met.P.Port.rises in
    let r = runner_for do_bodies c.args.calls.now.room in
    refused_there c.value.new.engine _ c.in_err-answer.field-0.0 c.from_residual.ensures (text_stopped law r c.args.at c.args.engine.now c.args.port.now c.requires.fits (text_for c.args.purpose) c.args.e.now _ c.in_err-answer.ensures.is)

pub returns-in_err-text_here-in-Ok-clause-is : goal.returns-in_err-text_here-in-Ok-clause-is
returns-in_err-text_here-in-Ok-clause-is g c =
    let law = lawful g.P.Port g.met.P.Port.none g.met.P.Port.joins g.met.P.Port.rises in
    let r = runner_for do_bodies c.args.calls.now.room in
    let on = text_on law r c.args.at c.args.engine.now c.args.port.now c.requires.fits (text_for c.args.purpose) c.args.e.now c.in_ok-answer.answer c.in-Ok.v c.in_ok-answer.ensures.is (search rules) in
    refused_there _ _ _ c.from_residual-in_err-text_here-in-Ok.ensures (λ k. stopped law (on k) (before law refl))

pub returns-in_ok-text_here-in-Ok-clause-is : goal.returns-in_ok-text_here-in-Ok-clause-is
returns-in_ok-text_here-in-Ok-clause-is g c =
    let law = lawful g.P.Port g.met.P.Port.none g.met.P.Port.joins g.met.P.Port.rises in
    let r = runner_for do_bodies c.args.calls.now.room in
    let on = text_on law r c.args.at c.args.engine.now c.args.port.now c.requires.fits (text_for c.args.purpose) c.args.e.now c.in_ok-answer.answer c.in-Ok.v c.in_ok-answer.ensures.is (search rules) in
    there_found law (texted r c.args.at (text_for c.args.purpose) c.args.e.now (world c.args.engine.now)) (settled (text_for c.args.purpose c.in-Ok.v) c.args.at (world c.value.new.engine)) _ on c.in_ok-text_here-in-Ok.ensures

pub returns-in-Err-clause-is : goal.returns-in-Err-clause-is
returns-in-Err-clause-is g c =
    let law = lawful g.P.Port g.met.P.Port.none g.met.P.Port.joins g.met.P.Port.rises in
    let r = runner_for do_bodies c.args.calls.now.room in
    text_off law r c.args.at c.args.engine.now c.args.port.now c.requires.fits (text_for c.args.purpose) c.args.e.now c.in_ok-answer.answer _ c.in_ok-answer.ensures.is (search rules)
