use Rattle.std.proofs.Common.{◌≡◌, None, Option, ap, refl, rules, subst}
use Rattle.pl_asking.proofs.of_pl_engine.Joins.{acted, becomes, before, lawful, refused, start}
use Rattle.pl_asking.specs.pl_engine.Engines.{Quiet, world}
use Rattle.pl_asking.specs.pl_engine.Texts.{do_bodies}
use Rattle.pl_raise.proofs.Found.{found_off, found_on, found_stopped}
use Rattle.pl_raise.proofs.Told.{fail_next, fail_way}
use Rattle.pl_raise.proofs.asserting.fail.Goals as goal
use Rattle.pl_tree.specs.declared.tree.Expr.{Expr}
use Rattle.pl_world.specs.Raising.{Text, assert_fails, assert_message, assertion_text, texted}
use Rattle.pl_world.specs.Statements.{runner_for}

pub returns-in_err-text-clause-is : goal.returns-in_err-text-clause-is
returns-in_err-text-clause-is g c =
    let law = lawful g.P.Port g.met.P.Port.none g.met.P.Port.joins g.met.P.Port.rises in
    refused _ _ _ c.from_residual.ensures (before law refl)

pub returns-in_default-clause-is : goal.returns-in_default-clause-is
returns-in_default-clause-is g c =
    let law = lawful g.P.Port g.met.P.Port.none g.met.P.Port.joins g.met.P.Port.rises in
    let r = runner_for do_bodies c.args.calls.now.room in
    let w = world c.args.engine.now in
    let is : c.args.message.now ≡ None = search rules in
    acted law (becomes law (start law (assert_message r c.args.at c.args.message.now w) c.args.engine.now c.args.port.now c.requires.fits) (ap (λ (m : Option Expr). assert_message r c.args.at m w) is))
    (subst (λ (t : Text). Quiet (assert_fails t c.args.at w) c.raise_text.result c.args.engine.now c.args.engine.now) c.in_ok-text.ensures c.raise_text.ensures)

pub returns-in_err-found-clause-is : goal.returns-in_err-found-clause-is
returns-in_err-found-clause-is g c =
    let law = lawful g.P.Port g.met.P.Port.none g.met.P.Port.joins g.met.P.Port.rises in
    let r = runner_for do_bodies c.args.calls.now.room in
    refused c.text.new.engine _ c.in_err-found.field-0.0 c.from_residual-in_err-found.ensures (found_stopped law (λ (u : Unit {0}). assert_message r c.args.at c.args.message.now (world c.args.engine.now)) (texted r c.args.at assertion_text c.get.result.now (world c.args.engine.now)) (λ (u : Unit {0}). fail_next c.args.at) (fail_way law r c.args.at c.args.engine.now c.args.port.now c.requires.fits c.args.message.now c.get.result.now (search rules)) c.text.new.engine _ c.in_err-found.ensures.is tt)

pub returns-in-Ok-clause-is : goal.returns-in-Ok-clause-is
returns-in-Ok-clause-is g c =
    let law = lawful g.P.Port g.met.P.Port.none g.met.P.Port.joins g.met.P.Port.rises in
    let r = runner_for do_bodies c.args.calls.now.room in
    acted law (found_on law (λ (u : Unit {0}). assert_message r c.args.at c.args.message.now (world c.args.engine.now)) (texted r c.args.at assertion_text c.get.result.now (world c.args.engine.now)) (λ (u : Unit {0}). fail_next c.args.at) (fail_way law r c.args.at c.args.engine.now c.args.port.now c.requires.fits c.args.message.now c.get.result.now (search rules)) c.in_ok-found.found c.in-Ok.text c.in_ok-found.ensures.is c.in-Ok.is tt) c.raise_text-in-Ok.ensures

pub returns-in-Err-clause-is : goal.returns-in-Err-clause-is
returns-in-Err-clause-is g c =
    let law = lawful g.P.Port g.met.P.Port.none g.met.P.Port.joins g.met.P.Port.rises in
    let r = runner_for do_bodies c.args.calls.now.room in
    found_off law (λ (u : Unit {0}). assert_message r c.args.at c.args.message.now (world c.args.engine.now)) (texted r c.args.at assertion_text c.get.result.now (world c.args.engine.now)) (λ (u : Unit {0}). fail_next c.args.at) (fail_way law r c.args.at c.args.engine.now c.args.port.now c.requires.fits c.args.message.now c.get.result.now (search rules)) c.in_ok-found.found _ c.in_ok-found.ensures.is c.in-Err.is tt
