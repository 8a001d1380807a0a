use Rattle.std.proofs.Common.{List, drop_of_length-le, subst, sym}
use Rattle.pl_query.proofs.Front.{front}
use Rattle.pl_query.specs.Presence.{AreRead}
use Rattle.pl_resolved.specs.declared.expression.RExpr.{RExpr}
use Rattle.pl_value.specs.Frames.{rows_of}
use Rattle.pl_query.proofs.presence.are_read.Goals as goal

pub loop-item-init : goal.loop-item-init
loop-item-init g c = λ read. read

pub loop-item-preserved : goal.loop-item-preserved
loop-item-preserved g c = λ rest.
    c.loop-item.invariant (subst (λ (xs : List RExpr). AreRead g.row.C.Denot xs (rows_of c.args.frame.now))
    (sym (front c.args.items.now c.loop-item.item-index c.item-item.result c.loop-item-test.true c.item-item.is))
    ((c.in-Some.field-0.now, c.in-Some.ensures), rest))

pub returns : goal.returns
returns g c = λ is.
    c.loop-item.invariant (subst (λ (xs : List RExpr). AreRead g.row.C.Denot xs (rows_of c.args.frame.now))
    (sym (drop_of_length-le c.args.items.now c.loop-item-test.false)) tt)
