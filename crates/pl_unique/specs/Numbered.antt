-- Keys by numbers. It says how the code stands to keys at places.
use Rattle.std.specs.Prelude.{◌≡◌, ◌<◌, ℕ, Bool, List, map, Option, Some}
use Rattle.std.specs.Prelude.{option_and_then, slice_get}
use Rattle.std.specs.Cmp.Lexicographic.{pointwise}
use Rattle.pl_unique.specs.declared.key.Part.{Part}
use Rattle.pl_unique.specs.contracts.key.PartPartialEq.TheImpl as parts

-- whether two keys are the same by the test of their parts
abbrev pub same_key : List Part → List Part → Bool
same_key = pointwise (parts.ghosts).eq

-- the key of this number
abbrev pub known : List (List Part) → Option ℕ → Option (List Part)
known keys number = option_and_then (slice_get keys) number

abbrev pub keys_at : List (List Part) → List (Option ℕ) → List (Option (List Part))
keys_at keys numbers = map (known keys) numbers

-- each number is of a key
abbrev pub Known : ℕ → List (Option ℕ) → Type 0
Known count numbers = (at n : ℕ) → slice_get numbers at ≡ Some (Some n) → n < count
