-- One more of the same.
use Rattle.std.proofs.Common.{◌≡◌, ℕ, zero, suc, ◌+◌, List, [], ◌∷◌, ◌++◌, replicate, refl, ap, ◌∙◌, arith}

snoc_same : (n : ℕ) → replicate n (tt {0}) ++ tt ∷ [] ≡ replicate (suc n) (tt {0})
snoc_same zero = refl
snoc_same (suc n) = ap (λ (l : List (Unit {0})). tt ∷ l) (snoc_same n)

pub one_not : (n : ℕ) → replicate n (tt {0}) ++ tt ∷ [] ≡ replicate (n + 1) (tt {0})
one_not n = snoc_same n ∙ (let e : suc n ≡ n + 1 = omega arith in ap (λ (k : ℕ). replicate k (tt {0})) e)
