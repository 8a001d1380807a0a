use Rattle.std.proofs.Common.{◌≡◌, drop}
use Rattle.pl_order.specs.Order.{order_by}
use Rattle.pl_order.proofs.sorting.order_by.Given as goal

abbrev pub invariant-loop-key : goal.invariant-loop-key
invariant-loop-key l = order_by l.keys l.a l.b ≡ order_by (drop l.key-index l.keys) l.a l.b
