use Rattle.std.proofs.Common.{Ok, refl}
use Rattle.pl_resolved.specs.declared.expression.RExpr.{RExpr}
use Rattle.pl_scope.proofs.Following.{follows_err, follows_ok}
use Rattle.pl_scope.proofs.queries.tree_alone.Goals as goal
use Rattle.pl_typing.specs.declared.typed.Typed.{Typed}

pub returns-in-Ok : goal.returns-in-Ok
returns-in-Ok c = follows_ok {A = Typed} {B = RExpr} _ (λ x. Ok x.tree) c.in-Ok.value (Ok c.in-Ok.value.tree) c.in-Ok.is refl

pub returns-in-Err : goal.returns-in-Err
returns-in-Err c = follows_err {A = Typed} {B = RExpr} _ (λ x. Ok x.tree) _ c.in-Err.is
