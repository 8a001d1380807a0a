use Rattle.std.proofs.Common.{◌≡◌, ◌∙◌, List, ap, refl, subst, sym}
use Rattle.pl_direct.specs.pl_scope.declared.resolve.ResolvedExpr.{ResolvedExpr}
use Rattle.pl_engine.specs.pl_world.Calls.{Within}
use Rattle.pl_quick.proofs.calls.enter.Goals as goal
use Rattle.pl_quick.specs.Calling.{AllRead}
use Rattle.pl_resolved.specs.declared.expression.RExpr.{RExpr}
use Rattle.pl_value.specs.Frames.{Row}

pub returns-in-Ok : goal.returns-in-Ok
returns-in-Ok c =
    let tree : c.get-2.result.now ≡ c.args.call.now.typed.tree = c.get-2.ensures ∙ ap (λ (x : ResolvedExpr). x.typed.tree) c.get.ensures in
    λ yes. record {
      name = c.in-Call.routine;
      arguments = c.in-Call.arguments;
      is_call = sym tree ∙ c.in-Call.is;
      vs = c.all_read.new.read;
      read = subst (λ (row : Row). AllRead Within c.in-Call.arguments row c.all_read.new.read) c.as_slice-values.ensures (subst (λ (list : List RExpr). AllRead Within list c.as_slice-values.result.now c.all_read.new.read) c.as_slice.ensures (c.if-not-all_read.ensures refl));
      variables = c.in-Ok.ensures.ok;
      steps = c.if-not-take_step.ensures.0;
    }
