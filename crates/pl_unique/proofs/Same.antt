-- Keys that are the same by the test of a map.
use Rattle.std.proofs.Common.{◌||◌, ◌≡◌, ◌<◌, ◌+◌, ℕ, zero, suc, Bool, true, false, cond, not, List, [], ◌∷◌, length, map, Option, None, Some, nat_lt, ◌↔◌, refl, sym, ap, ◌∙◌, subst, arith}
use Rattle.std.specs.List.{slice_get, position, position_or_len, prefix_len, list_any, IsDistinct, AllByRecursion}
use Rattle.std.proofs.lemmas.Bool.Decides.{nat_tests}
use Rattle.std.proofs.lemmas.Option.{slice_get_within}
use Rattle.std.proofs.lemmas.Map.Keys.{IsDistinct-tail, IsDistinct-head}

is_place : (n m at : ℕ) → (let o : Option ℕ = cond (nat_lt n m) (Some n) None in o ≡ Some at) → (n ≡ at) × (n < m)
is_place n m at is = (grind (arith, nat_tests), grind (arith, nat_tests))

at_place : (n m : ℕ) → n < m → (let o : Option ℕ = cond (nat_lt n m) (Some n) None in o ≡ Some n)
at_place n m lt = grind (arith, nat_tests, lt)

module _ {A B : Type 0} (seen : A → B) where
  pub map_at : (xs : List A) (i : ℕ) (x : A) → slice_get xs i ≡ Some x → slice_get (map seen xs) i ≡ Some (seen x)
  map_at [] i x is = absurd cc
  map_at (y ∷ ys) zero x is = ap (λ (z : A). Some (seen z)) (let e : Some y ≡ Some x = is in cc)
  map_at (y ∷ ys) (suc i) x is = map_at ys i x is

  pub at_map : (xs : List A) (i : ℕ) (b : B) → slice_get (map seen xs) i ≡ Some b → (x : A) × (slice_get xs i ≡ Some x) × (seen x ≡ b)
  at_map [] i b is = absurd cc
  at_map (y ∷ ys) zero b is = (y, refl, let e : Some (seen y) ≡ Some b = is in cc)
  at_map (y ∷ ys) (suc i) b is = at_map ys i b is

all_at : {A : Type 0} (P : A → Type 0) (xs : List A) (i : ℕ) (x : A) → AllByRecursion P xs → slice_get xs i ≡ Some x → P x
all_at P [] i x all is = absurd cc
all_at P (y ∷ ys) zero x all is = subst P (let e : Some y ≡ Some x = is in cc) all.0
all_at P (y ∷ ys) (suc i) x all is = all_at P ys i x all.1 is

-- a test that passes b alone
module _ {A : Type 0} (test : A → Bool) (b : A) (told : (a : A) → test a ≡ true → b ≡ a) (holds : (a : A) → b ≡ a → test a ≡ true) where
  -- the first that passes
  pub first_is : (xs : List A) (n : ℕ) → n ≡ position_or_len test xs → n < length xs → slice_get xs n ≡ Some b
  first_is [] n is lt = absurd (omega (arith, lt))
  first_is (x ∷ xs) zero is lt =
      (elim (test x) as (λ (t : Bool). test x ≡ t → (0 ≡ cond (not t) (1 + prefix_len (λ (y : A). not (test y)) xs) 0) → Some x ≡ Some b)
      [ true ↦ λ e h. ap Some (sym (told x e)) | false ↦ λ e h. absurd (omega (arith, h)) ]) refl is
  first_is (x ∷ xs) (suc n) is lt =
      (elim (test x) as (λ (t : Bool). (suc n ≡ cond (not t) (1 + prefix_len (λ (y : A). not (test y)) xs) 0) → slice_get xs n ≡ Some b)
      [ true ↦ λ h. absurd (omega (arith, h)) | false ↦ λ h. first_is xs n (omega (arith, h)) (omega (arith, lt)) ]) is

  -- none passes where b isn't there
  pub none_is : (xs : List A) → ((n : ℕ) → slice_get xs n ≡ Some b → ⊥) → list_any test xs ≡ false
  none_is [] absent = refl
  none_is (x ∷ xs) absent =
      (elim (test x) as (λ (t : Bool). test x ≡ t → list_any test (x ∷ xs) ≡ false) [
        | true ↦ λ e. absurd (absent 0 (ap Some (sym (told x e))))
        | false ↦ λ e. ap (λ (t : Bool). t || list_any test xs) e ∙ none_is xs (λ n is. absent (suc n) is)
      ]) refl

  -- where no two are the same, b is the first that passes
  module _ (same : A → A → Bool) (is_same : (x y : A) → x ≡ y → same x y ≡ true) where
    pub only_is : (xs : List A) → IsDistinct same xs → (n : ℕ) → slice_get xs n ≡ Some b → n ≡ position_or_len test xs
    only_is [] apart n is = absurd cc
    only_is (x ∷ xs) apart zero is =
        ap (λ (t : Bool). cond (not t) (1 + prefix_len (λ (y : A). not (test y)) xs) 0) (sym (holds x (sym (let e : Some x ≡ Some b = is in cc))))
    only_is (x ∷ xs) apart (suc n) is =
        let other : test x ≡ true → ⊥ = λ e.
        (let f : same x b ≡ false = all_at (λ (y : A). same x y ≡ false) xs n b (IsDistinct-head same x xs apart) is in
        let t : same x b ≡ true = is_same x b (sym (told x e)) in
        let no : true ≡ false = sym t ∙ f in cc) in
        (elim (test x) as (λ (t : Bool). test x ≡ t → suc n ≡ cond (not t) (1 + prefix_len (λ (y : A). not (test y)) xs) 0) [
          | true ↦ λ e. absurd (other e)
          | false ↦ λ e. (let h : n ≡ position_or_len test xs = only_is xs (IsDistinct-tail same x xs apart) n is in omega (arith, h))
        ]) refl

    pub place_is : (xs : List A) → IsDistinct same xs → (n : ℕ) → (position test xs ≡ Some n) ↔ (slice_get xs n ≡ Some b)
    place_is xs apart n = (
      λ e. (let h = is_place (position_or_len test xs) (length xs) n e in first_is xs n (sym h.0) (omega (arith, h.0, h.1))),
      λ e. (let at : n ≡ position_or_len test xs = only_is xs apart n e in
          let lt : n < length xs = slice_get_within xs n b e in
          at_place (position_or_len test xs) (length xs) (omega (arith, at, lt)) ∙ ap (λ (k : ℕ). let o : Option ℕ = Some k in o) (sym at)),
    )
