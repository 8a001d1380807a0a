-- That what is written is read back, whatever stands behind it.
use Rattle.std.specs.Prelude.{◌≡◌, ℕ, List, ◌++◌, length, Some}
use Rattle.std.specs.List.{flat_map}
use Rattle.pl_base.specs.declared.operation.Op.{Op}
use Rattle.pl_base.specs.declared.value.Value.{Value}
use Rattle.pl_codec.specs.Spelling.{value_bytes, op_bytes}
use Rattle.pl_codec.specs.Reading.{value_front, values_front, op_front}

abbrev pub ValueReadsBack : Value → Type 0
ValueReadsBack value =
    (rest : List ℕ) → value_front (value_bytes value ++ rest) ≡ Some (value, rest)

abbrev pub ValuesReadBack : List Value → Type 0
ValuesReadBack values =
    (rest : List ℕ)
    → values_front (length values) (flat_map value_bytes values ++ rest) ≡ Some (values, rest)

abbrev pub OpReadsBack : Op → Type 0
OpReadsBack op = (rest : List ℕ) → op_front (op_bytes op ++ rest) ≡ Some (op, rest)
