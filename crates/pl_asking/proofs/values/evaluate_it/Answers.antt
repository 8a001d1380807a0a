use Rattle.std.proofs.Common.{◌∙◌, Err, Result, ap, refl, subst, sym}
use Rattle.pl_asking.proofs.Acts.{resolved_err, resolved_ok}
use Rattle.pl_asking.proofs.Valued.{value_of_it}
use Rattle.pl_asking.proofs.values.evaluate_it.Goals as goal
use Rattle.pl_calling.proofs.of_pl_engine.Joins.{acted, answered, becomes, before, lawful, start}
use Rattle.pl_calling.specs.pl_engine.Engines.{world}
use Rattle.pl_calling.specs.pl_engine.Texts.{do_bodies}
use Rattle.pl_direct.specs.pl_scope.declared.resolve.ResolvedExpr.{ResolvedExpr}
use Rattle.pl_typing.specs.Resolved.{Gives}
use Rattle.pl_typing.specs.declared.fail.ScopeFail.{ScopeFail}
use Rattle.pl_world.specs.Errors.{resolved}
use Rattle.pl_world.specs.Statements.{runner_for}

pub returns-in-Ok-clause-is : goal.returns-in-Ok-clause-is
returns-in-Ok-clause-is g c = λ meaning gives.
    let law = lawful g.P.Port g.met.P.Port.none g.met.P.Port.joins g.met.P.Port.rises in
    let r = runner_for do_bodies c.args.calls.now.room in
    let w = world c.args.engine.now in
    let is = subst (λ (e : Result ResolvedExpr ScopeFail). Gives e meaning) c.in-Ok.is gives in
    answered law _ _ _ (becomes law (start law (resolved meaning c.args.at w (value_of_it r c.args.at w)) c.args.engine.now c.args.port.now c.requires.fits)
    (resolved_ok meaning c.args.at w (value_of_it r c.args.at w) c.in-Ok.e is ∙ ap (λ (x : ResolvedExpr). value_of_it r c.args.at w x) (sym c.get.ensures))) c.evaluate.ensures.is

pub returns-in-State-clause-is : goal.returns-in-State-clause-is
returns-in-State-clause-is g c = λ meaning gives.
    let law = lawful g.P.Port g.met.P.Port.none g.met.P.Port.joins g.met.P.Port.rises in
    let r = runner_for do_bodies c.args.calls.now.room in
    let w = world c.args.engine.now in
    let fails = subst (λ (e : Result ResolvedExpr ScopeFail). Gives e meaning) c.in-Err.is gives in
    let is = subst (λ (f : ScopeFail). Gives {A = ResolvedExpr} (Err f) meaning) c.in-State.is fails in
    acted law (becomes law (start law (resolved meaning c.args.at w (value_of_it r c.args.at w)) c.args.engine.now c.args.port.now c.requires.fits)
    (resolved_err meaning c.args.at w (value_of_it r c.args.at w) c.in-State.state is)) c.raise.ensures

pub returns-in-Memory-clause-is : goal.returns-in-Memory-clause-is
returns-in-Memory-clause-is g c = λ meaning gives. before (lawful g.P.Port g.met.P.Port.none g.met.P.Port.joins g.met.P.Port.rises) refl
