-- The front of what is left of a list.
use Rattle.std.proofs.Common.{◌≡◌, ◌<◌, ◌+◌, refl, ℕ, List, ◌∷◌, drop, get_or, length, add-one, drop-cons}

pub front : {A : Type 0} (xs : List A) (i : ℕ) (x : A) → i < length xs → x ≡ get_or xs i x → drop i xs ≡ x ∷ drop (i + 1) xs
front xs i x lt is = rw (add-one, drop-cons xs i x lt, ← is) refl
