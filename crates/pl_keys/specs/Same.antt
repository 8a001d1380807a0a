-- Rows that GROUP BY and DISTINCT take for one: PostgreSQL manual, "The GROUP BY and HAVING
-- Clauses", "DISTINCT". Nulls are the same.
use Rattle.std.specs.Prelude.{ℕ, suc, Bool, not, if◌then◌else◌, List, [], ◌∷◌, ◌++◌}
use Rattle.std.specs.Prelude.{Option, Some, None, filter, option_map}
use Rattle.std.specs.Ordering.{eq_by_cmp}
use Rattle.std.specs.Cmp.Lexicographic.{pointwise}
use Rattle.pl_base.specs.declared.types.Ty.TheVariants.{Unknown}
use Rattle.pl_base.specs.declared.value.Field.{Field, roll-Field}
use Rattle.pl_base.specs.declared.value.Value.{Value, Row', Row_of-Field, end_of-Field}
use Rattle.pl_base.specs.declared.value.Value.{more_of-Field}
use Rattle.pl_base.specs.declared.value.Value.TheVariants.{Null, Int, Big, Text, Row, Bool as Truth}
use Rattle.pl_keys.specs.Order.{value_order}

-- the order tells no value of the one from that of the other
abbrev pub same : List Value → List Value → Bool
same row other = pointwise (eq_by_cmp value_order) row other

-- the rows of which none before is the same
abbrev pub firsts : List (List Value) → List (List Value)
firsts [] = []
firsts (row ∷ rows) = row ∷ filter (λ other. not (same row other)) (firsts rows)

-- the place of the first that passes, from 0
abbrev pub place_of : {A : Type 0} → (A → Bool) → List A → Option ℕ
place_of test [] = None
place_of test (x ∷ xs) = if test x then Some 0 else option_map suc (place_of test xs)

-- the rows, and one more where it has no place among them
abbrev pub with_row : Option ℕ → List (List Value) → List Value → List (List Value)
with_row (Some place) rows row = rows
with_row None rows row = rows ++ row ∷ []

-- a field of this value, without a name and a type
abbrev pub field_of : Value → Field
field_of v = roll-Field (record { name = []; ty = Unknown; value = v })

-- what values that are the same agree in: all but the widths of numbers, and the names and types
-- of fields
abbrev mutual
  pub plain : Value → Value
  plain Null = Null
  plain (Truth b) = Truth b
  plain (Int z) = Big z
  plain (Big z) = Big z
  plain (Text t) = Text t
  plain (Row' _ fields) = Row (plain_fields fields)

  pub plain_fields : {m : _} → Row_of-Field m → List Field
  plain_fields end_of-Field = []
  plain_fields (more_of-Field _ _ v rest) = field_of (plain v) ∷ plain_fields rest
