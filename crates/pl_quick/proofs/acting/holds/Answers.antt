use Rattle.std.proofs.Common.{◌≡◌, ◌∙◌, ap, subst}
use Rattle.std.specs.Prelude.{IfSome}
use Rattle.pl_base.specs.declared.value.Value.TheVariants as value
use Rattle.pl_direct.specs.Direct.{Valued}
use Rattle.pl_direct.specs.pl_scope.declared.resolve.ResolvedExpr.{ResolvedExpr}
use Rattle.pl_engine.specs.pl_world.Calls.{Within}
use Rattle.pl_quick.proofs.acting.holds.Goals as goal
use Rattle.pl_resolved.specs.declared.expression.RExpr.{RExpr}
use Rattle.pl_value.specs.Frames.{Row}

pub returns : goal.returns
returns c =
    let tree : c.get-2.result.now ≡ c.args.e.now.typed.tree = c.get-2.ensures ∙ ap (λ (x : ResolvedExpr). x.typed.tree) c.get.ensures in
    subst (λ (row : Row). IfSome c.truth.result (λ b. Valued Within c.args.e.now.typed.tree row (value.Bool b))) c.as_slice.ensures
    (subst (λ (t : RExpr). IfSome c.truth.result (λ b. Valued Within t c.as_slice.result.now (value.Bool b))) tree c.truth.ensures)
