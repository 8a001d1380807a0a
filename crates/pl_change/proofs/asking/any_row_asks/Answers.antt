use Rattle.std.proofs.Common.{sym, subst, List, arith}
use Rattle.std.proofs.lemmas.List.{drop_all}
use Rattle.pl_change.proofs.Turns.{front}
use Rattle.pl_change.specs.Running.{AreSame, AreSameRows}
use Rattle.pl_resolved.specs.declared.expression.RExpr.{RExpr}
use Rattle.pl_targets.specs.declared.change.RRow.{RRow}
use Rattle.pl_change.proofs.asking.any_row_asks.Goals as goal

pub loop-row-init : goal.loop-row-init
loop-row-init g c calls these those all = all

pub loop-row-preserved : goal.loop-row-preserved
loop-row-preserved g c calls these those rest =
    c.loop-row.invariant calls these those
    (subst (λ (list : List RRow). AreSameRows calls these those list) (sym (front c.args.rows.now c.loop-row.row-index c.row-item.result c.loop-row-test.true c.row-item.is))
    (subst (λ (list : List RExpr). AreSame calls these those list) c.as_slice.ensures (c.any_has_query.ensures c.if-any_has_query.false calls these those), rest))

pub returns : goal.returns
returns g c absent calls these those =
    c.loop-row.invariant calls these those
    (subst (λ (list : List RRow). AreSameRows calls these those list) (sym (drop_all c.loop-row.row-index c.args.rows.now (omega (arith, c.loop-row-test.false)))) tt)
