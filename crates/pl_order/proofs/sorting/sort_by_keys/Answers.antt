use Rattle.std.proofs.Common.{rules}
use Rattle.std.proofs.lemmas.Result.{on_ok_weaker}
use Rattle.std.proofs.lemmas.Fn.{always_returns_same}
use Rattle.pl_order.specs.Order.{order_by}
use Rattle.pl_order.proofs.Total.{is_before, rows_ranked}
use Rattle.pl_order.proofs.Stable.{stable_sort}
use Rattle.pl_order.proofs.sorting.sort_by_keys.Goals as goal

pub returns-clause-ok : goal.returns-clause-ok
returns-clause-ok c =
    let keys = c.args.keys.now in
    on_ok_weaker c.sort_by.result
    (λ up. stable_sort (order_by keys) (rows_ranked keys) c.args.rows.now.items c.sort_by.new.self.items
    (up (is_before keys) (rows_ranked keys) (always_returns_same _ _ _ (λ a r f k. search rules)))
    (c.sort_by.ensures.stable (is_before keys) (rows_ranked keys) (always_returns_same _ _ _ (λ a r f k. search rules))))
    c.sort_by.ensures.sorted
