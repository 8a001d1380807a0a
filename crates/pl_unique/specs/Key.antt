-- What UNIQUE and PRIMARY KEY compare: PostgreSQL manual, "Constraints", sections "Unique
-- Constraints" and "Primary Keys". A null equals nothing, so a row with one has no key.
use Rattle.std.specs.Prelude.{◌≡◌, ◌≢◌, ℕ, List, [], ◌∷◌, Option, None, Some, option_and_then, slice_get}
use Rattle.pl_base.specs.declared.value.Value.{Value, Row'}
use Rattle.pl_base.specs.declared.value.Value.TheVariants.{Null, Int, Big, Text, Bool}
use Rattle.pl_unique.specs.declared.key.Part.{Part}
use Rattle.pl_unique.specs.declared.key.Part.TheVariants as part

-- integer and bigint compare as numbers
abbrev pub part_of : Value → Option Part
part_of Null = None
part_of (Int z) = Some (part.Number z)
part_of (Big z) = Some (part.Number z)
part_of (Text t) = Some (part.Text t)
part_of (Bool b) = Some (part.Truth b)
part_of (Row' shape fields) = None

abbrev pub before : Option Part → Option (List Part) → Option (List Part)
before (Some p) (Some ps) = Some (p ∷ ps)
before p ps = None

-- the parts of these columns, by their places in the row; None where one of them is null
abbrev pub key_of : List ℕ → List Value → Option (List Part)
key_of [] row = Some []
key_of (c ∷ cs) row = before (option_and_then part_of (slice_get row c)) (key_of cs row)

-- no place has this key
abbrev pub IsFree : List Part → List (Option (List Part)) → Type 0
IsFree key keys = (at : ℕ) → slice_get keys at ≢ Some (Some key)

-- no place but this one has it
abbrev pub IsFreeBeside : ℕ → List Part → List (Option (List Part)) → Type 0
IsFreeBeside at key keys = (p : ℕ) → slice_get keys p ≡ Some (Some key) → p ≡ at
