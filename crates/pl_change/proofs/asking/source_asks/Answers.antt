use Rattle.std.proofs.Common.{sym, subst, List}
use Rattle.pl_change.specs.Running.{AreSame, AreSameRows, SourceIsSame}
use Rattle.pl_resolved.specs.declared.expression.RExpr.{RExpr}
use Rattle.pl_targets.specs.declared.change.RRow.{RRow}
use Rattle.pl_targets.specs.declared.change.RRows.{RRows}
use Rattle.pl_change.proofs.asking.source_asks.Goals as goal

pub returns-in-Values : goal.returns-in-Values
returns-in-Values g c absent calls these those =
    subst (λ (source : RRows). SourceIsSame calls these those source) (sym c.in-Values.is)
    (subst (λ (list : List RRow). AreSameRows calls these those list) c.as_slice.ensures (c.any_row_asks.ensures absent calls these those))

pub returns-in-Query : goal.returns-in-Query
returns-in-Query g c absent calls these those =
    subst (λ (source : RRows). SourceIsSame calls these those source) (sym c.in-Query.is)
    (subst (λ (list : List RExpr). AreSame calls these those list) c.as_slice-in-Query.ensures (c.any_has_query.ensures absent calls these those))
