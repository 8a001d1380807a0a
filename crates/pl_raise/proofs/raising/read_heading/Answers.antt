use Rattle.std.proofs.Common.{◌≡◌, ◌∙◌, ap, refl, rules, subst, sym}
use Rattle.pl_bodies.specs.declared.simple.Raised.TheVariants as raising
use Rattle.pl_bodies.specs.declared.simple.Raised.{Raised}
use Rattle.pl_asking.proofs.of_pl_engine.Joins.{becomes, before, lawful, start}
use Rattle.pl_asking.specs.pl_engine.Engines.{world}
use Rattle.pl_asking.specs.pl_engine.Texts.{do_bodies}
use Rattle.pl_raise.proofs.Found.{refused_there, there_found}
use Rattle.pl_raise.proofs.raising.read_heading.Goals as goal
use Rattle.pl_raise.specs.Finding.{Finds}
use Rattle.pl_typing.specs.Resolved.{Resolved}
use Rattle.pl_world.specs.Conversions.{settled}
use Rattle.pl_world.specs.Raising.{Report, heading_told}
use Rattle.pl_world.specs.Statements.{runner_for}

pub returns-in-Text-clause-is : goal.returns-in-Text-clause-is
returns-in-Text-clause-is g c =
    let r = runner_for do_bodies c.args.calls.now.room in
    let is : c.args.raised.now ≡ raising.Text c.in-Text.format c.as_slice.result.now = search rules in
    subst (λ (x : Raised). Finds g.P.Port (heading_told r c.args.at x (world c.args.engine.now)) c.read_message.result c.args.engine.now c.read_message.new.engine c.args.port.now c.read_message.new.port) (sym is) c.read_message.ensures.is

pub returns-in_err-report-in-Condition-clause-is : goal.returns-in_err-report-in-Condition-clause-is
returns-in_err-report-in-Condition-clause-is g c =
    let law = lawful g.P.Port g.met.P.Port.none g.met.P.Port.joins g.met.P.Port.rises in
    refused_there _ _ _ c.from_residual.ensures (λ k. before law refl)

pub returns-in_ok-report-in-Condition-clause-is : goal.returns-in_ok-report-in-Condition-clause-is
returns-in_ok-report-in-Condition-clause-is g c =
    let law = lawful g.P.Port g.met.P.Port.none g.met.P.Port.joins g.met.P.Port.rises in
    let r = runner_for do_bodies c.args.calls.now.room in
    let w = world c.args.engine.now in
    there_found law (heading_told r c.args.at c.args.raised.now (world c.args.engine.now)) (settled c.in_ok-report-in-Condition.report c.args.at w) c.settle.result
    (λ k. becomes law (start law ((heading_told r c.args.at c.args.raised.now (world c.args.engine.now)) k) c.args.engine.now c.args.port.now c.requires.fits) (ap (λ (x : Raised). heading_told r c.args.at x w k) c.in-Condition.is ∙ ap (λ (rep : Resolved Report). settled rep c.args.at w k) (sym c.in_ok-report-in-Condition.ensures)))
    c.settle.ensures

pub returns-in-Nothing-clause-is : goal.returns-in-Nothing-clause-is
returns-in-Nothing-clause-is g c =
    let law = lawful g.P.Port g.met.P.Port.none g.met.P.Port.joins g.met.P.Port.rises in
    let r = runner_for do_bodies c.args.calls.now.room in
    let w = world c.args.engine.now in
    λ k. becomes law (start law ((heading_told r c.args.at c.args.raised.now (world c.args.engine.now)) k) c.args.engine.now c.args.port.now c.requires.fits) (ap (λ (x : Raised). heading_told r c.args.at x w k) c.in-Nothing.is ∙ ap (λ (rep : Report). k rep w) (sym c.new.ensures))
