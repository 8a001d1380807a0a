-- ORDER BY: PostgreSQL manual, "Sorting Rows (ORDER BY)".
use Rattle.std.specs.Prelude.{ℕ, if◌then◌else◌, List, [], ◌∷◌}
use Rattle.std.specs.Ordering.{nat_cmp, is_lt, ordering_then}
use Rattle.std.specs.declared.cmp.Ordering.{Ordering}
use Rattle.std.specs.declared.cmp.Ordering.TheVariants.{Equal}
use Rattle.pl_base.specs.declared.value.Value.{Value}
use Rattle.pl_calc.specs.Logic.{is_null}
use Rattle.pl_keys.specs.Order.{turned, value_at}
use Rattle.pl_resolved.specs.declared.query.RKey.{RKey}

-- NULLS FIRST and NULLS LAST: before all values, or behind them
abbrev pub null_place : RKey → Value → ℕ
null_place key v = if is_null v then (if key.nulls_first then 0 else 2) else 1

-- the order of two values by a key
abbrev pub key_order : RKey → Value → Value → Ordering
key_order key a b =
    ordering_then (nat_cmp (null_place key a) (null_place key b)) (turned key.is_descending a b)

-- the first key that tells two rows apart decides
abbrev pub order_by : List RKey → List Value → List Value → Ordering
order_by [] a b = Equal
order_by (key ∷ keys) a b =
    ordering_then (key_order key (value_at a key.item) (value_at b key.item)) (order_by keys a b)

module _ {A : Type 0} where
  -- an item stands behind those that are less, and before all others
  abbrev pub placed : (A → A → Ordering) → A → List A → List A
  placed order x [] = x ∷ []
  placed order x (y ∷ ys) =
      if is_lt (order y x) then y ∷ placed order x ys else x ∷ (y ∷ ys)

  -- items in order; those that tie stay as they came
  abbrev pub sorted : (A → A → Ordering) → List A → List A
  sorted order [] = []
  sorted order (x ∷ xs) = placed order x (sorted order xs)
