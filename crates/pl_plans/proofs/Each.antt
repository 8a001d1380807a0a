-- What holds of each item of a list.
use Rattle.std.proofs.Common.{◌<◌, ℕ, suc, zero, List, [], ◌∷◌, ◌++◌, arith, drop, get_or, length, set, take}
use Rattle.std.specs.List.{AllByRecursion}

module _ {A : Type 0} (P : A → Type 0) where
  pub of_one : (xs : List A) (i : ℕ) (d : A) → AllByRecursion P xs → i < length xs → P (get_or xs i d)
  of_one [] i d all within = absurd (omega (arith, within))
  of_one (x ∷ xs) zero d all within = all.0
  of_one (x ∷ xs) (suc i) d all within = of_one xs i d all.1 (omega (arith, within))

  pub with_one : (xs : List A) (i : ℕ) (x : A) → AllByRecursion P xs → P x → AllByRecursion P (set xs i x)
  with_one [] i x all one = tt
  with_one (y ∷ xs) zero x all one = (one, all.1)
  with_one (y ∷ xs) (suc i) x all one = (all.0, with_one xs i x all.1 one)

  front : (n : ℕ) (xs : List A) → AllByRecursion P xs → AllByRecursion P (take n xs)
  front zero xs all = tt
  front (suc n) [] all = tt
  front (suc n) (x ∷ xs) all = (all.0, front n xs all.1)

  back : (n : ℕ) (xs : List A) → AllByRecursion P xs → AllByRecursion P (drop n xs)
  back zero xs all = all
  back (suc n) [] all = tt
  back (suc n) (x ∷ xs) all = back n xs all.1

  both : (xs ys : List A) → AllByRecursion P xs → AllByRecursion P ys → AllByRecursion P (xs ++ ys)
  both [] ys all others = others
  both (x ∷ xs) ys all others = (all.0, both xs ys all.1 others)

  -- a list that was lent as a slice, and what was written to it
  pub lent : (n : ℕ) (xs new : List A) → AllByRecursion P xs → AllByRecursion P new → AllByRecursion P (take n (new ++ drop (length new) xs))
  lent n xs new all written = front n (new ++ drop (length new) xs) (both new (drop (length new) xs) written (back (length new) xs all))
