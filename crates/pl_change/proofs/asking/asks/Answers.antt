use Rattle.std.proofs.Common.{subst, List}
use Rattle.pl_change.specs.Running.{AreSame}
use Rattle.pl_resolved.specs.declared.expression.RExpr.{RExpr}
use Rattle.pl_change.proofs.asking.asks.Goals as goal

pub returns : goal.returns
returns g c absent calls these those =
    (subst (λ (list : List RExpr). AreSame calls these those list) c.as_slice.ensures (c.any_has_query.ensures c.if-any_has_query.false calls these those), c.what_asks.ensures absent calls these those)
