-- The place of the first that passes.
use Rattle.std.proofs.Common.{◌≡◌, refl, sym, ap, ◌∙◌, subst, ℕ, suc, ◌<◌, Bool, true, false, cond, List, [], ◌∷◌, ◌++◌, length, get_or, Option, Some, None, option_map, arith}
use Rattle.pl_keys.specs.Same.{place_of}
use Rattle.pl_keys.specs.Marks.{or_else}

push_none : (b : Bool) → (let o : Option ℕ = cond b (Some 0) None in o) ≡ or_else None (cond b (Some 0) None)
push_none b = refl

push_if : (n : ℕ) (b : Bool) (o : Option ℕ) (c : Bool) → (let r : Option ℕ = cond b (Some 0) (option_map suc (or_else o (cond c (Some n) None))) in r) ≡ or_else (cond b (Some 0) (option_map suc o)) (cond c (Some (suc n)) None)
push_if n true o c = refl
push_if n false (Some m) c = refl
push_if n false None true = refl
push_if n false None false = refl

module _ {A : Type 0} where
  within_if : (p : A → Bool) (xs : List A) (k : ℕ) (b : Bool) (o : Option ℕ) → ((n : ℕ) → o ≡ Some n → n < length xs) → cond b (Some 0) (option_map suc o) ≡ Some k → k < suc (length xs)
  within_if p xs k true o below is = let h : 0 ≡ k = cc is in omega (arith, h)
  within_if p xs k false None below is = cc
  within_if p xs k false (Some n) below is = let h : suc n ≡ k = cc is in omega (arith, h, below n refl)

  pub within : (p : A → Bool) (xs : List A) (k : ℕ) → place_of p xs ≡ Some k → k < length xs
  within p [] k is = cc
  within p (x ∷ xs) k is = within_if p xs k (p x) (place_of p xs) (within p xs) is

  -- one more at the end
  pub push : (p : A → Bool) (xs : List A) (y : A) → place_of p (xs ++ y ∷ []) ≡ or_else (place_of p xs) (cond (p y) (Some (length xs)) None)
  push p [] y = push_none (p y)
  push p (x ∷ xs) y = ap (λ (o : Option ℕ). cond (p x) (Some 0) (option_map suc o)) (push p xs y) ∙ push_if (length xs) (p x) (place_of p xs) (p y)

  module _ (p q : A → Bool) (marked : (x : A) → p x ≡ true → q x ≡ true) where
    false-too : (x : A) → q x ≡ false → (b : Bool) → p x ≡ b → b ≡ false
    false-too x unmarked true is = sym (marked x is) ∙ unmarked
    false-too x unmarked false is = refl

    none_if : (x : A) (b : Bool) (o r : Option ℕ) → q x ≡ b → (o ≡ None → r ≡ None) → cond b (Some 0) (option_map suc o) ≡ None → cond (p x) (Some 0) (option_map suc r) ≡ None
    none_if x true o r e rest is = cc
    none_if x false (Some n) r e rest is = cc
    none_if x false None r e rest is =
        let h : p x ≡ false = false-too x e (p x) refl in
        let t : r ≡ None = rest refl in
        rw (h, t) refl

    -- what isn't marked isn't found
    pub none : (xs : List A) → place_of q xs ≡ None → place_of p xs ≡ None
    none [] is = refl
    none (x ∷ xs) is = none_if x (q x) (place_of q xs) (place_of p xs) refl (none xs) is

    first_if : (x : A) (xs : List A) (k : ℕ) (d : A) (b : Bool) (o r : Option ℕ) → q x ≡ b → ((n : ℕ) → o ≡ Some n → p (get_or xs n d) ≡ true → r ≡ Some n)
        → cond b (Some 0) (option_map suc o) ≡ Some k → p (get_or (x ∷ xs) k d) ≡ true → cond (p x) (Some 0) (option_map suc r) ≡ Some k
    first_if x xs k d true o r e rest is passes =
        let P : ℕ → Type 0 = λ n. p (get_or (x ∷ xs) n d) ≡ true in
        let z : 0 ≡ k = cc is in
        let h : p x ≡ true = subst P (sym z) passes in
        rw h is
    first_if x xs k d false None r e rest is passes = cc
    first_if x xs k d false (Some n) r e rest is passes =
        let P : ℕ → Type 0 = λ n. p (get_or (x ∷ xs) n d) ≡ true in
        let z : suc n ≡ k = cc is in
        let y : p (get_or xs n d) ≡ true = subst P (sym z) passes in
        let h : p x ≡ false = false-too x e (p x) refl in
        let t : r ≡ Some n = rest n refl y in
        rw (h, t) is

    -- the first that is marked is the first that passes, if it passes
    pub first : (xs : List A) (k : ℕ) (d : A) → place_of q xs ≡ Some k → p (get_or xs k d) ≡ true → place_of p xs ≡ Some k
    first [] k d is passes = cc
    first (x ∷ xs) k d is passes = first_if x xs k d (q x) (place_of q xs) (place_of p xs) refl (λ n e. first xs n d e) is passes
