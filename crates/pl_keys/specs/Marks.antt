-- Marks of rows, by which they are found. Rows that are the same have the same mark.
use Rattle.std.specs.Prelude.{ℕ, ℤ, ◌+◌, ◌*◌, ◌%◌, ◌^◌, ◌==◌, true, false, if◌then◌else◌, List, fold}
use Rattle.std.specs.Prelude.{Option, Some, None}
use Rattle.std.specs.Int.{w64, cast_unsigned}
use Rattle.pl_base.specs.declared.value.Field.{Field, out-Field}
use Rattle.pl_base.specs.declared.value.Value.{Value, Row', Row_of-Field, end_of-Field}
use Rattle.pl_base.specs.declared.value.Value.{more_of-Field}
use Rattle.pl_base.specs.declared.value.Value.TheVariants.{Null, Int, Big, Text, Bool as Truth}

-- the factor and the width of a mark
abbrev pub mixed : ℕ → ℕ → ℕ
mixed m n = (m * 1099511628211 + n) % 2 ^ 64

abbrev pub mark_of_number : ℤ → ℕ
mark_of_number z = mixed 4 (cast_unsigned w64 z)

abbrev mutual
  pub mark_of_value : Value → ℕ
  mark_of_value Null = 1
  mark_of_value (Truth true) = 2
  mark_of_value (Truth false) = 3
  mark_of_value (Int z) = mark_of_number z
  mark_of_value (Big z) = mark_of_number z
  mark_of_value (Text t) = fold mixed 5 t
  mark_of_value (Row' _ fields) = with_fields fields 6

  -- the fields mixed to a mark
  pub with_fields : {m : _} → Row_of-Field m → ℕ → ℕ
  with_fields end_of-Field mark = mark
  with_fields (more_of-Field _ _ v rest) mark = with_fields rest (mixed mark (mark_of_value v))

abbrev pub with_value : ℕ → Value → ℕ
with_value mark v = mixed mark (mark_of_value v)

abbrev pub with_field : ℕ → Field → ℕ
with_field mark field = with_value mark (out-Field field).value

abbrev pub mark_of : List Value → ℕ
mark_of row = fold with_value 0 row

-- the first place of each mark is kept
abbrev pub or_else : Option ℕ → Option ℕ → Option ℕ
or_else (Some place) other = Some place
or_else None other = other

abbrev pub noted : ℕ → ℕ → ℕ → Option ℕ → Option ℕ
noted mark place q known = or_else known (if mark == q then Some place else None)
