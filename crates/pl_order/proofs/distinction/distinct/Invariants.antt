use Rattle.std.proofs.Common.{◌≡◌, ◌++◌, filter, length}
use Rattle.pl_keys.specs.Same.{firsts}
use Rattle.pl_order.proofs.Kept.{is_new}
use Rattle.pl_order.proofs.distinction.distinct.Given as goal

abbrev pub invariant-loop-row : goal.invariant-loop-row
invariant-loop-row l = record {
  kept : firsts l.fn.rows.items ≡ l.keys ++ filter (is_new l.keys) (firsts l.row-iterator.rest.items);
  counted : length l.row-iterator.rest.items ≡ l.row-iterator.rest.len;
}
