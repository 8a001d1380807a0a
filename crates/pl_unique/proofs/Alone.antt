-- A key that is a number.
use Rattle.std.proofs.Common.{◌≡◌, ℤ, List, [], ◌∷◌, Some, ap}
use Rattle.pl_unique.specs.declared.key.Part.{Part}
use Rattle.pl_unique.specs.declared.key.Part.TheVariants.{Number, Text, Truth}
use Rattle.pl_unique.specs.Fed.{alone}

pub alone_is : (key : List Part) (n : ℤ) → alone key ≡ Some n → key ≡ Number n ∷ []
alone_is [] n is = absurd cc
alone_is (Number m ∷ []) n is = ap (λ (z : ℤ). Number z ∷ []) (let e : Some m ≡ Some n = is in cc)
alone_is (Text t ∷ []) n is = absurd cc
alone_is (Truth b ∷ []) n is = absurd cc
alone_is (p ∷ q ∷ ps) n is = absurd cc
