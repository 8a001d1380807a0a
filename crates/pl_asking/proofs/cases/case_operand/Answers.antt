use Rattle.std.proofs.Common.{◌∙◌, Err, Some, ap, refl, subst, sym}
use Rattle.pl_asking.proofs.Acts.{resolved_err, resolved_ok}
use Rattle.pl_asking.proofs.Tried.{case_is, operand_read}
use Rattle.pl_asking.proofs.cases.case_operand.Goals as goal
use Rattle.pl_calling.proofs.of_pl_engine.Joins.{acted, answered, becomes, before, lawful, same_world, start}
use Rattle.pl_calling.specs.pl_engine.Engines.{world}
use Rattle.pl_calling.specs.pl_engine.Texts.{do_bodies}
use Rattle.pl_direct.specs.pl_scope.declared.resolve.ResolvedExpr.{ResolvedExpr}
use Rattle.pl_typing.specs.Resolved.{Gives}
use Rattle.pl_typing.specs.declared.fail.ScopeFail.{ScopeFail}
use Rattle.pl_world.specs.Control.{case}
use Rattle.pl_world.specs.Errors.{raised}
use Rattle.pl_world.specs.Resolving.{reading}
use Rattle.pl_world.specs.Statements.{runner_for}
use Rattle.pl_world.specs.World.{World}

pub returns-in-Ok-clause-is : goal.returns-in-Ok-clause-is
returns-in-Ok-clause-is g c =
    let law = lawful g.P.Port g.met.P.Port.none g.met.P.Port.joins g.met.P.Port.rises in
    let r = runner_for do_bodies c.args.runner.now.room in
    let w = world c.args.engine.now in
    let k = operand_read r c.args.at c.args.arms.now c.args.otherwise.now w in
    let way = becomes law (start law (case r c.args.at (Some c.args.operand.now) c.args.arms.now c.args.otherwise.now w) c.args.engine.now c.args.port.now c.requires.fits)
    (case_is r c.args.at c.args.operand.now c.args.arms.now c.args.otherwise.now w
    ∙ (resolved_ok (reading c.args.operand.now w.database.objects w.frame.static) c.args.at w k c.in-Ok.e c.in-Ok.ensures.gives ∙ ap (λ (x : ResolvedExpr). k x) (sym c.get.ensures))) in
    answered law _ _ _ (same_world law {new = c.resolve_expr.new.self} way c.in-Ok.ensures.is (λ (x : World). operand_read r c.args.at c.args.arms.now c.args.otherwise.now x c.get.result.now) refl) c.try_value.ensures.is

pub returns-in-Err-State-clause-is : goal.returns-in-Err-State-clause-is
returns-in-Err-State-clause-is g c =
    let law = lawful g.P.Port g.met.P.Port.none g.met.P.Port.joins g.met.P.Port.rises in
    let r = runner_for do_bodies c.args.runner.now.room in
    let w = world c.args.engine.now in
    let m = reading c.args.operand.now w.database.objects w.frame.static in
    let is = subst (λ (f : ScopeFail). Gives {A = ResolvedExpr} (Err f) m) c.in-Err-State.field-0-is c.in-Err-State.ensures.gives in
    let way = becomes law (start law (case r c.args.at (Some c.args.operand.now) c.args.arms.now c.args.otherwise.now w) c.args.engine.now c.args.port.now c.requires.fits)
    (case_is r c.args.at c.args.operand.now c.args.arms.now c.args.otherwise.now w
    ∙ resolved_err m c.args.at w (operand_read r c.args.at c.args.arms.now c.args.otherwise.now w) c.in-Err-State.state is) in
    acted law (same_world law {new = c.resolve_expr.new.self} way c.in-Err-State.ensures.is (λ (x : World). raised c.in-Err-State.state c.args.at x) refl) c.raise.ensures

pub returns-in-Err-Memory-clause-is : goal.returns-in-Err-Memory-clause-is
returns-in-Err-Memory-clause-is g c = before (lawful g.P.Port g.met.P.Port.none g.met.P.Port.joins g.met.P.Port.rises) refl
