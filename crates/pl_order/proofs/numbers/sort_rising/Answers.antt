use Rattle.std.proofs.Common.{rules}
use Rattle.std.proofs.lemmas.Result.{on_ok_weaker}
use Rattle.std.proofs.lemmas.Fn.{always_returns_same}
use Rattle.pl_order.specs.Numbers.{number_at, rising}
use Rattle.pl_order.proofs.Numbered.{rising_ranked}
use Rattle.pl_order.proofs.Stable.{stable_sort}
use Rattle.pl_order.proofs.numbers.sort_rising.Goals as goal

pub returns-clause-ok : goal.returns-clause-ok
returns-clause-ok c =
    let key = number_at c.args.item in
    on_ok_weaker c.sort_by_cached_key.result
    (λ up. stable_sort (rising c.args.item) (rising_ranked c.args.item) c.args.rows.now.items c.sort_by_cached_key.new.self.items
    (up key (always_returns_same _ _ _ (λ a r f k. search rules)))
    (c.sort_by_cached_key.ensures.stable key (always_returns_same _ _ _ (λ a r f k. search rules))))
    c.sort_by_cached_key.ensures.sorted
