use Rattle.std.proofs.Common.{rules, List, ℤ}
use Rattle.std.proofs.lemmas.Result.{on_ok_weaker}
use Rattle.std.proofs.lemmas.Fn.{always_returns_same}
use Rattle.std.specs.declared.cmp.Reverse.{Reverse}
use Rattle.pl_base.specs.declared.value.Value.{Value}
use Rattle.pl_order.specs.Numbers.{falling, number_at}
use Rattle.pl_order.proofs.Numbered.{falling_ranked}
use Rattle.pl_order.proofs.Stable.{stable_sort}
use Rattle.pl_order.proofs.numbers.sort_falling.Goals as goal

pub returns-clause-ok : goal.returns-clause-ok
returns-clause-ok c =
    let key : List Value → Reverse ℤ = λ row. record { 0 = number_at c.args.item row } in
    on_ok_weaker c.sort_by_cached_key.result
    (λ up. stable_sort (falling c.args.item) (falling_ranked c.args.item) c.args.rows.now.items c.sort_by_cached_key.new.self.items
    (up key (always_returns_same _ _ _ (λ a r f k. search rules)))
    (c.sort_by_cached_key.ensures.stable key (always_returns_same _ _ _ (λ a r f k. search rules))))
    c.sort_by_cached_key.ensures.sorted
