-- Rows are ordered totally by each list of keys.
use Rattle.std.proofs.Common.{Bool, true, false, List, [], ◌∷◌}
use Rattle.std.specs.Cmp.{IsTotalOrder, IsStrictWeakOrder, nat_cmp_total, on_total, back_total, then_total}
use Rattle.std.specs.Cmp.Derive.{point_total}
use Rattle.std.specs.Ordering.{is_lt}
use Rattle.std.proofs.lemmas.List.Sorted.{ranks_by}
use Rattle.pl_base.specs.declared.value.Value.{Value}
use Rattle.pl_keys.specs.Lent.{values_total}
use Rattle.pl_keys.specs.Order.{turned, value_at}
use Rattle.pl_resolved.specs.declared.query.RKey.{RKey}
use Rattle.pl_order.specs.Order.{key_order, null_place, order_by}

turned_total : (is_descending : Bool) → IsTotalOrder (turned is_descending)
turned_total true = back_total values_total
turned_total false = values_total

key_total : (key : RKey) → IsTotalOrder (key_order key)
key_total key = then_total (on_total (null_place key) nat_cmp_total) (turned_total key.is_descending)

rows_total : (keys : List RKey) → IsTotalOrder (order_by keys)
rows_total [] = point_total
rows_total (key ∷ keys) = then_total (on_total (λ (row : List Value). value_at row key.item) (key_total key)) (rows_total keys)

-- whether a row is less than another
abbrev pub is_before : List RKey → List Value → List Value → Bool
is_before keys a b = is_lt (order_by keys a b)

pub rows_ranked : (keys : List RKey) → IsStrictWeakOrder (is_before keys)
rows_ranked keys = ranks_by (rows_total keys) (λ (row : List Value). row)
