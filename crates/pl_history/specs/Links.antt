-- A number or none, in one word.
use Rattle.std.specs.Prelude.{◌≡◌, ℕ, zero, suc, Option, None, Some}
use Rattle.std.proofs.Common.{refl}

-- none is 0, and a number is one less than its word
abbrev pub number_in : ℕ → Option ℕ
number_in zero = None
number_in (suc n) = Some n

abbrev pub word_of : Option ℕ → ℕ
word_of None = zero
word_of (Some n) = suc n

pub word_back : (word : ℕ) → word_of (number_in word) ≡ word
word_back zero = refl
word_back (suc n) = refl
