-- How the code sorts rows by an item that is a whole number; no definition.
use Rattle.std.specs.Prelude.{ℕ, ℤ, pos, Bool, List, Option, Some, None, is_some, unwrap_or}
use Rattle.std.specs.Ordering.{int_cmp}
use Rattle.std.specs.declared.cmp.Ordering.{Ordering}
use Rattle.pl_base.specs.declared.value.Value.{Value}
use Rattle.pl_base.specs.declared.value.Value.TheVariants.{Int, Big}
use Rattle.pl_keys.specs.Order.{value_at}

-- the number that a value is
abbrev pub number : Value → Option ℤ
number (Int z) = Some z
number (Big z) = Some z
number v = None

abbrev pub has_number : ℕ → List Value → Bool
has_number item row = is_some (number (value_at row item))

-- the item; 0 where it is no number
abbrev pub number_at : ℕ → List Value → ℤ
number_at item row = unwrap_or (number (value_at row item)) (pos 0)

-- the less number first
abbrev pub rising : ℕ → List Value → List Value → Ordering
rising item a b = int_cmp (number_at item a) (number_at item b)

-- the greater number first
abbrev pub falling : ℕ → List Value → List Value → Ordering
falling item a b = int_cmp (number_at item b) (number_at item a)
