use Rattle.std.proofs.Common.{◌∙◌, Err, ap, refl, subst, sym}
use Rattle.pl_asking.proofs.Acts.{resolved_err, resolved_ok}
use Rattle.pl_asking.proofs.Tried.{beside_it}
use Rattle.pl_asking.proofs.cases.match_operand.Goals as goal
use Rattle.pl_asking.specs.Values.{read_match}
use Rattle.pl_calling.proofs.of_pl_engine.Joins.{acted, answered, becomes, before, lawful, start}
use Rattle.pl_calling.specs.pl_engine.Engines.{world}
use Rattle.pl_calling.specs.pl_engine.Texts.{do_bodies}
use Rattle.pl_direct.specs.pl_scope.declared.resolve.ResolvedExpr.{ResolvedExpr}
use Rattle.pl_typing.specs.Resolved.{Gives}
use Rattle.pl_typing.specs.declared.fail.ScopeFail.{ScopeFail}
use Rattle.pl_world.specs.Resolving.{matching}
use Rattle.pl_world.specs.Statements.{runner_for}

pub returns-in-Ok-clause-is : goal.returns-in-Ok-clause-is
returns-in-Ok-clause-is g c =
    let law = lawful g.P.Port g.met.P.Port.none g.met.P.Port.joins g.met.P.Port.rises in
    let r = runner_for do_bodies c.args.calls.now.room in
    let w = world c.args.engine.now in
    let m = matching c.args.ty.now c.args.values.now w.database.objects w.frame.static in
    let k = beside_it r c.args.at c.args.operand.now w in
    answered law _ _ _ (becomes law (start law (read_match r c.args.at c.args.ty.now c.args.operand.now c.args.values.now w) c.args.engine.now c.args.port.now c.requires.fits)
    (resolved_ok m c.args.at w k c.in-Ok.e c.in-Ok.ensures ∙ ap (λ (x : ResolvedExpr). k x) (sym c.get.ensures))) c.evaluate_beside.ensures.is

pub returns-in-Err-State-clause-is : goal.returns-in-Err-State-clause-is
returns-in-Err-State-clause-is g c =
    let law = lawful g.P.Port g.met.P.Port.none g.met.P.Port.joins g.met.P.Port.rises in
    let r = runner_for do_bodies c.args.calls.now.room in
    let w = world c.args.engine.now in
    let m = matching c.args.ty.now c.args.values.now w.database.objects w.frame.static in
    let is = subst (λ (f : ScopeFail). Gives {A = ResolvedExpr} (Err f) m) c.in-Err-State.field-0-is c.in-Err-State.ensures in
    acted law (becomes law (start law (read_match r c.args.at c.args.ty.now c.args.operand.now c.args.values.now w) c.args.engine.now c.args.port.now c.requires.fits)
    (resolved_err m c.args.at w (beside_it r c.args.at c.args.operand.now w) c.in-Err-State.state is)) c.raise.ensures

pub returns-in-Err-Memory-clause-is : goal.returns-in-Err-Memory-clause-is
returns-in-Err-Memory-clause-is g c = before (lawful g.P.Port g.met.P.Port.none g.met.P.Port.joins g.met.P.Port.rises) refl
