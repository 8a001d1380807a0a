-- What a payload reads as: the operations whose spellings stand in it, one behind the other, and
-- nothing else. Each part is read from the front of the bytes that are left.
use Rattle.std.specs.Prelude.{◌==◌, ℕ, zero, suc, List, [], ◌∷◌, length, take, drop, Option, Some, None, option_and_then, nat_le, false, true, if◌then◌else◌}
use Rattle.std.specs.Int.{from_be_bytes, w32, w64, cast_signed}
use Rattle.pl_base.specs.declared.operation.Op.{Op}
use Rattle.pl_base.specs.declared.operation.Op.TheVariants.{Define, Put, Remove, Next}
use Rattle.pl_base.specs.declared.value.Value.{Value}
use Rattle.pl_base.specs.declared.value.Value.TheVariants.{Null, Int, Big, Text, Bool as Truth}
use Rattle.pl_codec.specs.Spelling.{is_text, is_table_name, is_row_id}

-- what stands in front of some bytes, and the bytes behind it; None where there is no such thing
abbrev pub Front : Type 0 → Type 0
Front T = Option (T × List ℕ)

infixl 10 ◌>>=◌
abbrev ◌>>=◌ : {A B : Type 0} → Option A → (A → Option B) → Option B
o >>= f = option_and_then f o

abbrev pub byte_front : List ℕ → Front ℕ
byte_front [] = None
byte_front (byte ∷ rest) = Some (byte, rest)

-- so many bytes
unfoldable pub bytes_front : ℕ → List ℕ → Front (List ℕ)
bytes_front count bytes =
    if nat_le count (length bytes) then Some (take count bytes, drop count bytes) else None

-- a number of 4 bytes, and one of 8
unfoldable pub front_32 : List ℕ → Front ℕ
front_32 bytes = do
  number ← bytes_front 4 bytes
  Some (from_be_bytes w32 number.0, number.1)

unfoldable pub front_64 : List ℕ → Front ℕ
front_64 bytes = do
  number ← bytes_front 8 bytes
  Some (from_be_bytes w64 number.0, number.1)

unfoldable pub row_id_front : List ℕ → Front ℕ
row_id_front bytes = do
  id ← front_64 bytes
  if is_row_id id.0 then Some id else None

unfoldable pub text_front : List ℕ → Front (List ℕ)
text_front bytes = do
  size ← front_32 bytes
  text ← bytes_front size.0 size.1
  if is_text text.0 then Some text else None

unfoldable pub name_front : List ℕ → Front (List ℕ)
name_front bytes = do
  size ← byte_front bytes
  name ← bytes_front size.0 size.1
  if is_table_name name.0 then Some name else None

abbrev pub int_front : List ℕ → Front Value
int_front bytes = do
  number ← front_32 bytes
  Some (Int (cast_signed w32 number.0), number.1)

abbrev pub big_front : List ℕ → Front Value
big_front bytes = do
  number ← front_64 bytes
  Some (Big (cast_signed w64 number.0), number.1)

abbrev pub text_value_front : List ℕ → Front Value
text_value_front bytes = do
  text ← text_front bytes
  Some (Text text.0, text.1)

abbrev pub truth_front : List ℕ → Front Value
truth_front bytes = do
  byte ← byte_front bytes
  if byte.0 == 0 then Some (Truth false, byte.1)
      else (if byte.0 == 1 then Some (Truth true, byte.1) else None)

-- what a value's kind asks for
abbrev pub value_behind : ℕ → List ℕ → Front Value
value_behind kind bytes =
    if kind == 0 then Some (Null, bytes)
    else (if kind == 1 then int_front bytes
    else (if kind == 2 then big_front bytes
    else (if kind == 3 then text_value_front bytes
    else (if kind == 4 then truth_front bytes else None))))

unfoldable pub value_front : List ℕ → Front Value
value_front bytes = do
  kind ← byte_front bytes
  value_behind kind.0 kind.1

-- so many values
unfoldable pub values_front : ℕ → List ℕ → Front (List Value)
values_front zero bytes = Some ([], bytes)
values_front (suc count) bytes = do
  first ← value_front bytes
  others ← values_front count first.1
  Some (first.0 ∷ others.0, others.1)

abbrev pub define_front : List ℕ → Front Op
define_front bytes = do
  text ← text_front bytes
  Some (Define text.0, text.1)

abbrev pub put_front : List ℕ → Front Op
put_front bytes = do
  table ← name_front bytes
  id ← row_id_front table.1
  count ← byte_front id.1
  row ← values_front count.0 count.1
  Some (Put table.0 id.0 row.0, row.1)

abbrev pub remove_front : List ℕ → Front Op
remove_front bytes = do
  table ← name_front bytes
  id ← front_64 table.1
  Some (Remove table.0 id.0, id.1)

abbrev pub next_front : List ℕ → Front Op
next_front bytes = do
  table ← name_front bytes
  next ← front_64 table.1
  Some (Next table.0 next.0, next.1)

-- what an operation's kind asks for
abbrev pub op_behind : ℕ → List ℕ → Front Op
op_behind kind bytes =
    if kind == 1 then define_front bytes
    else (if kind == 2 then put_front bytes
    else (if kind == 3 then remove_front bytes
    else (if kind == 4 then next_front bytes else None)))

unfoldable pub op_front : List ℕ → Front Op
op_front bytes = do
  kind ← byte_front bytes
  op_behind kind.0 kind.1

-- the operations up to the end of the bytes (the first number only bounds their count: there are no
-- more of them than bytes)
unfoldable pub ops_within : ℕ → List ℕ → Option (List Op)
ops_within zero [] = Some []
ops_within zero (byte ∷ bytes) = None
ops_within (suc more) [] = Some []
ops_within (suc more) (byte ∷ bytes) = do
  op ← op_front (byte ∷ bytes)
  others ← ops_within more op.1
  Some (op.0 ∷ others)

-- the operations that a whole payload spells, if it spells some
unfoldable pub operations_of : List ℕ → Option (List Op)
operations_of payload = ops_within (length payload) payload
