-- Places counted from 0, and a value put where there is no place.
use Rattle.std.proofs.Common.{◌≡◌, ◌+◌, ◌≤◌, ◌++◌, ◌∙◌, ap, ℕ, zero, suc, List, [], ◌∷◌, length, arith}
use Rattle.std.proofs.lemmas.List.{set_past}
use Rattle.std.specs.List.{range_with_len}
use Rattle.std.specs.Prelude.{slice_set}

last : (a n j : ℕ) → a + n ≡ j → range_with_len a (suc n) ≡ range_with_len a n ++ j ∷ []
last a zero j e = let same : a ≡ j = omega arith in ap (λ k. k ∷ []) same
last a (suc n) j e = ap (λ l. a ∷ l) (last (a + 1) n j (omega arith))

pub one_more : (n : ℕ) → range_with_len 0 (n + 1) ≡ range_with_len 0 n ++ n ∷ []
one_more n = let on : n + 1 ≡ suc n = omega arith in ap (range_with_len 0) on ∙ last 0 n n (omega arith)

pub beyond : {X : Type 0} (xs : List X) (i : ℕ) (y : X) → length xs ≤ i → slice_set xs i y ≡ xs
beyond xs i y h = set_past xs i y h
