use Rattle.pl_value.proofs.Numbers.{numbers_compare}
use Rattle.pl_value.proofs.comparison.numbers_hold.Goals as goal

pub returns : goal.returns
returns c =
    numbers_compare c.args.comparison c.args.a.is_integer c.args.b.is_integer c.args.a.whole c.args.b.whole c.order.result c.is_order.result c.order.ensures c.is_order.ensures
