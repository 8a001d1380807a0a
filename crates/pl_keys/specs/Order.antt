-- The order of values: PostgreSQL manual, "Comparison Functions and Operators", "Composite Type
-- Comparison".
use Rattle.std.specs.Prelude.{ℕ, Bool, true, false, List, slice_get, unwrap_or}
use Rattle.std.specs.Ordering.{nat_cmp, ordering_then}
use Rattle.std.specs.declared.cmp.Ordering.{Ordering}
use Rattle.std.specs.declared.cmp.Ordering.TheVariants.{Less, Equal, Greater}
use Rattle.pl_base.specs.declared.value.Field.{Field, out-Field}
use Rattle.pl_base.specs.declared.value.Value.{Value, Row', Row_of-Field, end_of-Field}
use Rattle.pl_base.specs.declared.value.Value.{more_of-Field}
use Rattle.pl_base.specs.declared.value.Value.TheVariants.{Null, Int, Big, Text, Bool as Truth}
use Rattle.pl_calc.specs.Comparison.{order_of}

-- the kinds of values in their order; null comes last
abbrev pub kind : Value → ℕ
kind (Truth b) = 0
kind (Int z) = 1
kind (Big z) = 1
kind (Text t) = 2
kind (Row' _ fields) = 3
kind Null = 4

-- numbers, texts and booleans as they compare, values of different kinds by their kinds
abbrev pub plain_order : Value → Value → Ordering
plain_order a b = unwrap_or (order_of a b) (nat_cmp (kind a) (kind b))

abbrev mutual
  -- rows by the first of their fields that differ
  pub value_order : Value → Value → Ordering
  value_order (Row' _ a) (Row' _ b) = row_order a b
  value_order a b = plain_order a b

  -- a row that ends before the other one is less
  pub row_order : {m : _} → Row_of-Field m → {n : _} → Row_of-Field n → Ordering
  row_order end_of-Field end_of-Field = Equal
  row_order end_of-Field (more_of-Field _ _ w others) = Less
  row_order (more_of-Field _ _ v rest) end_of-Field = Greater
  row_order (more_of-Field _ _ v rest) (more_of-Field _ _ w others) =
      ordering_then (value_order v w) (row_order rest others)

-- the order, turned round for DESC
abbrev pub turned : Bool → Value → Value → Ordering
turned true a b = value_order b a
turned false a b = value_order a b

-- the value at a place; null where there is none
abbrev pub value_at : List Value → ℕ → Value
value_at values place = unwrap_or (slice_get values place) Null

-- fields by their values
abbrev pub field_order : Field → Field → Ordering
field_order a b = value_order (out-Field a).value (out-Field b).value
