-- The operations of a commit as the bytes of a payload: their spellings, one behind the other.
-- Numbers are big-endian.
use Rattle.std.specs.Prelude.{◌==◌, ◌&&◌, ℕ, ◌^◌, List, [], ◌∷◌, ◌++◌, length, not, Bool, true, false, nat_lt, nat_le, if◌then◌else◌}
use Rattle.std.specs.Int.{to_be_bytes, w32, w64, cast_unsigned}
use Rattle.std.specs.List.{list_all, flat_map}
use Rattle.std.specs.Str.{is_utf8}
use Rattle.pl_base.specs.declared.operation.Op.{Op}
use Rattle.pl_base.specs.declared.operation.Op.TheVariants.{Define, Put, Remove, Next}
use Rattle.pl_base.specs.declared.value.Value.{Value, Row'}
use Rattle.pl_base.specs.declared.value.Value.TheVariants.{Null, Int, Big, Text, Bool as Truth}

-- UTF-8 without a zero byte
abbrev pub is_text : List ℕ → Bool
is_text bytes = is_utf8 bytes && list_all (λ b. not (b == 0)) bytes

-- the text of a Define: its length has 4 bytes
abbrev pub is_define_text : List ℕ → Bool
is_define_text text = is_text text && nat_lt (length text) (2 ^ 32)

abbrev pub is_table_name : List ℕ → Bool
is_table_name name = is_text name && nat_lt 0 (length name) && nat_le (length name) 63

abbrev pub is_row_id : ℕ → Bool
is_row_id id = nat_lt 0 id && nat_lt id (2 ^ 63)

-- a text behind its length in 4 bytes
abbrev pub text_bytes : List ℕ → List ℕ
text_bytes text = to_be_bytes w32 (length text) ++ text

-- a name behind its length in a byte
abbrev pub name_bytes : List ℕ → List ℕ
name_bytes name = length name ∷ name

-- A value is its kind and what the kind asks for. A row value has no spelling: no column has such a
-- type.
abbrev pub value_bytes : Value → List ℕ
value_bytes Null = 0 ∷ []
value_bytes (Int number) = 1 ∷ to_be_bytes w32 (cast_unsigned w32 number)
value_bytes (Big number) = 2 ∷ to_be_bytes w64 (cast_unsigned w64 number)
value_bytes (Text text) = 3 ∷ text_bytes text
value_bytes (Truth truth) = 4 ∷ (if truth then 1 else 0) ∷ []
value_bytes (Row' shape fields) = []

-- the value has a spelling: a text is UTF-8 without a zero byte, whose length has 4 bytes
abbrev pub is_stored_value : Value → Bool
is_stored_value Null = true
is_stored_value (Int number) = true
is_stored_value (Big number) = true
is_stored_value (Text text) = is_define_text text
is_stored_value (Truth truth) = true
is_stored_value (Row' shape fields) = false

-- An operation is its kind and what the kind asks for. The number of a row's values is a byte.
abbrev pub op_bytes : Op → List ℕ
op_bytes (Define text) = 1 ∷ text_bytes text
op_bytes (Put table id row) =
    2 ∷ (name_bytes table ++ (to_be_bytes w64 id ++ length row ∷ flat_map value_bytes row))
op_bytes (Remove table id) = 3 ∷ (name_bytes table ++ to_be_bytes w64 id)
op_bytes (Next table next) = 4 ∷ (name_bytes table ++ to_be_bytes w64 next)

-- the operation has a spelling
abbrev pub is_stored_op : Op → Bool
is_stored_op (Define text) = is_define_text text
is_stored_op (Put table id row) =
    is_table_name table && is_row_id id && nat_lt (length row) 256 && list_all is_stored_value row
is_stored_op (Remove table id) = is_table_name table
is_stored_op (Next table next) = is_table_name table

-- the payload of these operations
abbrev pub ops_bytes : List Op → List ℕ
ops_bytes ops = flat_map op_bytes ops

-- each of them has a spelling
abbrev pub are_stored : List Op → Bool
are_stored ops = list_all is_stored_op ops
