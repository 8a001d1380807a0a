-- Writes to two lists that are inverse to one another.
use Rattle.std.proofs.Common.{◌≡◌, ◌<◌, ◌≤◌, ◌+◌, ◌++◌, length-append, inl, inr, ℕ, zero, suc, List, [], ◌∷◌, Option, Some, None, length, refl, sym, ap, subst, ◌∙◌, arith}
use Rattle.std.specs.List.{slice_get, slice_set}
use Rattle.std.proofs.lemmas.Bool.{cases_eq}
use Rattle.pl_history.specs.Pairs.{Inverse, IsFree, IsFreeBeside}

module _ {A : Type 0} where
  pub at_set : (xs : List A) (i : ℕ) (v : A) → i < length xs → slice_get (slice_set xs i v) i ≡ Some v
  at_set [] i v lt = absurd (omega (arith, lt))
  at_set (x ∷ xs) zero v lt = refl
  at_set (x ∷ xs) (suc i) v lt = at_set xs i v (omega (arith, lt))

  pub beside_set : (xs : List A) (i j : ℕ) (v : A) → (j ≡ i → ⊥) → slice_get (slice_set xs i v) j ≡ slice_get xs j
  beside_set [] i j v ne = refl
  beside_set (x ∷ xs) zero zero v ne = absurd (ne refl)
  beside_set (x ∷ xs) zero (suc j) v ne = refl
  beside_set (x ∷ xs) (suc i) zero v ne = refl
  beside_set (x ∷ xs) (suc i) (suc j) v ne = beside_set xs i j v (λ e. ne (ap suc e))

  pub within : (xs : List A) (i : ℕ) (x : A) → slice_get xs i ≡ Some x → i < length xs
  within [] i x is = absurd cc
  within (y ∷ xs) zero x is = omega arith
  within (y ∷ xs) (suc i) x is = let h = within xs i x is in omega (arith, h)

  pub set_same : (xs : List A) (i : ℕ) (v : A) → slice_get xs i ≡ Some v → slice_set xs i v ≡ xs
  set_same [] i v is = refl
  set_same (x ∷ xs) zero v is = ap (λ (y : A). y ∷ xs) (let e : Some x ≡ Some v = is in cc)
  set_same (x ∷ xs) (suc i) v is = ap (λ (ys : List A). x ∷ ys) (set_same xs i v is)

  pub at_end : (xs : List A) (v : A) → slice_get (xs ++ v ∷ []) (length xs) ≡ Some v
  at_end [] v = refl
  at_end (x ∷ xs) v = at_end xs v

  pub before_end : (xs : List A) (v : A) (i : ℕ) → i < length xs → slice_get (xs ++ v ∷ []) i ≡ slice_get xs i
  before_end [] v i lt = absurd (omega (arith, lt))
  before_end (x ∷ xs) v zero lt = refl
  before_end (x ∷ xs) v (suc i) lt = before_end xs v i (omega (arith, lt))

  pub set_set : (xs : List A) (i : ℕ) (v w : A) → slice_set (slice_set xs i v) i w ≡ slice_set xs i w
  set_set [] i v w = refl
  set_set (x ∷ xs) zero v w = refl
  set_set (x ∷ xs) (suc i) v w = ap (λ (ys : List A). x ∷ ys) (set_set xs i v w)

  pub set_end : (xs : List A) (v w : A) → slice_set (xs ++ v ∷ []) (length xs) w ≡ xs ++ w ∷ []
  set_end [] v w = refl
  set_end (x ∷ xs) v w = ap (λ (ys : List A). x ∷ ys) (set_end xs v w)

  pub set_past : (xs : List A) (i : ℕ) (v : A) → length xs ≤ i → slice_set xs i v ≡ xs
  set_past [] i v le = refl
  set_past (x ∷ xs) zero v le = absurd (omega (arith, le))
  set_past (x ∷ xs) (suc i) v le = ap (λ (ys : List A). x ∷ ys) (set_past xs i v (omega (arith, le)))

abbrev pub Half : List (Option ℕ) → List (Option ℕ) → Type 0
Half ns ps = (at n : ℕ) → slice_get ns at ≡ Some (Some n) → slice_get ps n ≡ Some (Some at)

pub both : (ns ps : List (Option ℕ)) → Half ns ps → Half ps ns → Inverse ns ps
both ns ps there back at n = (there at n, back n at)

pub turned : (ns ps : List (Option ℕ)) → Inverse ns ps → Inverse ps ns
turned ns ps inv n at = ((inv at n).1, (inv at n).0)

pub same_number : (n m : ℕ) → (let o : Option (Option ℕ) = Some (Some n) in o ≡ Some (Some m)) → n ≡ m
same_number n m is = grind (arith, is)

pub not_none : (n : ℕ) → (let o : Option (Option ℕ) = Some None in o ≡ Some (Some n)) → ⊥
not_none n is = grind (arith, is)

-- a number leaves its place
half_released : (ns ps : List (Option ℕ)) (at n : ℕ) → Inverse ns ps → slice_get ns at ≡ Some (Some n) → Half (slice_set ns at None) (slice_set ps n None)
half_released ns ps at n inv has a m is =
    elim (cases_eq a at) [
      | inl e ↦ absurd (not_none m (sym (at_set ns at None (within ns at (Some n) has)) ∙ (ap (slice_get (slice_set ns at None)) (sym e) ∙ is)))
      | inr ne ↦
          let old : slice_get ps m ≡ Some (Some a) = (inv a m).0 (sym (beside_set ns at a None ne) ∙ is) in
          let mine : slice_get ps n ≡ Some (Some at) = (inv at n).0 has in
          beside_set ps n m None (λ e. ne (same_number a at (sym old ∙ (ap (slice_get ps) e ∙ mine)))) ∙ old
    ]

pub released : (ns ps : List (Option ℕ)) (at n : ℕ) → Inverse ns ps → slice_get ns at ≡ Some (Some n) → Inverse (slice_set ns at None) (slice_set ps n None)
released ns ps at n inv has =
    both _ _ (half_released ns ps at n inv has) (half_released ps ns n at (turned ns ps inv) ((inv at n).0 has))

-- a number comes to an empty place
half_occupied : (ns ps : List (Option ℕ)) (at n : ℕ) → Half ns ps → at < length ns → n < length ps
    → slice_get ps n ≡ Some None → Half (slice_set ns at (Some n)) (slice_set ps n (Some at))
half_occupied ns ps at n half there known free a m is =
    elim (cases_eq a at) [
      | inl e ↦
          let m_is : n ≡ m = same_number n m (sym (at_set ns at (Some n) there) ∙ (ap (slice_get (slice_set ns at (Some n))) (sym e) ∙ is)) in
          ap (slice_get (slice_set ps n (Some at))) (sym m_is) ∙ (at_set ps n (Some at) known ∙ ap (λ (k : ℕ). let o : Option (Option ℕ) = Some (Some k) in o) (sym e))
      | inr ne ↦
          let old : slice_get ps m ≡ Some (Some a) = half a m (sym (beside_set ns at a (Some n) ne) ∙ is) in
          beside_set ps n m (Some at) (λ e. not_none a (sym free ∙ (ap (slice_get ps) (sym e) ∙ old))) ∙ old
    ]

-- a number that is at no place has none
pub empty_at : (ns ps : List (Option ℕ)) (n : ℕ) → Inverse ns ps → n < length ps → IsFree n ns → slice_get ps n ≡ Some None
empty_at ns ps n inv known free = by (slice_get ps n) refl
  where
    by : (o : Option (Option ℕ)) → slice_get ps n ≡ o → slice_get ps n ≡ Some None
    by None is = absurd (past ps n known is)
      where
        past : (xs : List (Option ℕ)) (i : ℕ) → i < length xs → slice_get xs i ≡ None → ⊥
        past [] i lt is = omega (arith, lt)
        past (x ∷ xs) zero lt is = absurd cc
        past (x ∷ xs) (suc i) lt is = past xs i (omega (arith, lt)) is
    by (Some None) is = is
    by (Some (Some at)) is = absurd (free at ((inv at n).1 is))

pub occupied : (ns ps : List (Option ℕ)) (at n : ℕ) → Inverse ns ps → slice_get ns at ≡ Some None → n < length ps → IsFree n ns
    → Inverse (slice_set ns at (Some n)) (slice_set ps n (Some at))
occupied ns ps at n inv empty known free =
    let there : at < length ns = within ns at None empty in
    let hole : slice_get ps n ≡ Some None = empty_at ns ps n inv known free in
    both _ _ (half_occupied ns ps at n (λ a m. (inv a m).0) there known hole) (half_occupied ps ns n at (λ m a. (inv a m).1) known there empty)

-- what is free beside a place is free once that place is empty
pub free_released : (ns : List (Option ℕ)) (at n : ℕ) → at < length ns → IsFreeBeside at n ns → IsFree n (slice_set ns at None)
free_released ns at n there free p is =
    elim (cases_eq p at) [
      | inl e ↦ not_none n (sym (at_set ns at None there) ∙ (ap (slice_get (slice_set ns at None)) (sym e) ∙ is))
      | inr ne ↦ ne (free p (sym (beside_set ns at p None ne) ∙ is))
    ]

-- an empty place more
pub widened : (ns ps : List (Option ℕ)) → Inverse ns ps → Inverse (ns ++ None ∷ []) ps
widened ns ps inv = both _ _ there back
  where
    there : Half (ns ++ None ∷ []) ps
    there a m is =
        elim (cases_eq a (length ns)) [
          | inl e ↦ absurd (not_none m (sym (at_end ns None) ∙ (ap (slice_get (ns ++ None ∷ [])) (sym e) ∙ is)))
          | inr ne ↦
              let lt : a < length (ns ++ None ∷ []) = within (ns ++ None ∷ []) a (Some m) is in
              let n : length (ns ++ None ∷ []) ≡ length ns + 1 = length-append ns (None ∷ []) in
              (inv a m).0 (sym (before_end ns None a (omega (arith, lt, n, ne))) ∙ is)
        ]

    back : Half ps (ns ++ None ∷ [])
    back m a is =
        let old : slice_get ns a ≡ Some (Some m) = (inv a m).1 is in
        before_end ns None a (within ns a (Some m) old) ∙ old

-- what is at no place is not at an empty one either
pub free_widened : (ns : List (Option ℕ)) (n : ℕ) → IsFree n ns → IsFreeBeside (length ns) n (ns ++ None ∷ [])
free_widened ns n free p is =
    elim (cases_eq p (length ns)) [
      | inl e ↦ e
      | inr ne ↦
          let lt : p < length (ns ++ None ∷ []) = within (ns ++ None ∷ []) p (Some n) is in
          let l : length (ns ++ None ∷ []) ≡ length ns + 1 = length-append ns (None ∷ []) in
          absurd (free p (sym (before_end ns None p (omega (arith, lt, l, ne))) ∙ is))
    ]

-- what was at a place is where it says
pub place_is : (ns ps : List (Option ℕ)) (n : ℕ) → Inverse ns ps → (o : Option ℕ) → slice_get ps n ≡ Some o → (at : ℕ)
    → (o ≡ Some at → slice_get ns at ≡ Some (Some n)) × (slice_get ns at ≡ Some (Some n) → o ≡ Some at)
place_is ns ps n inv o has at = (
  λ e. (inv at n).1 (has ∙ ap (λ (r : Option ℕ). let q : Option (Option ℕ) = Some r in q) e),
  λ is. (let e : Some o ≡ Some (Some at) = sym has ∙ (inv at n).0 is in cc),
)

pub place_past : (ns ps : List (Option ℕ)) (n : ℕ) → Inverse ns ps → length ps ≤ n → (at : ℕ)
    → ((let o : Option ℕ = None in o ≡ Some at) → slice_get ns at ≡ Some (Some n)) × (slice_get ns at ≡ Some (Some n) → (let o : Option ℕ = None in o ≡ Some at))
place_past ns ps n inv le at = (
  λ e. absurd cc,
  λ is. absurd (let lt : n < length ps = within ps n (Some at) ((inv at n).0 is) in omega (arith, lt, le)),
)

-- the last place goes
pub shortened : (ns ps : List (Option ℕ)) → Inverse (ns ++ None ∷ []) ps → Inverse ns ps
shortened ns ps inv = both _ _ there back
  where
    there : Half ns ps
    there a m is = (inv a m).0 (before_end ns None a (within ns a (Some m) is) ∙ is)

    back : Half ps ns
    back m a is =
        let old : slice_get (ns ++ None ∷ []) a ≡ Some (Some m) = (inv a m).1 is in
        elim (cases_eq a (length ns)) [
          | inl e ↦ absurd (not_none m (sym (at_end ns None) ∙ (ap (slice_get (ns ++ None ∷ [])) (sym e) ∙ old)))
          | inr ne ↦
              let lt : a < length (ns ++ None ∷ []) = within (ns ++ None ∷ []) a (Some m) old in
              let l : length (ns ++ None ∷ []) ≡ length ns + 1 = length-append ns (None ∷ []) in
              sym (before_end ns None a (omega (arith, lt, l, ne))) ∙ old
        ]

pub last_released : (ns ps : List (Option ℕ)) (n : ℕ) → Inverse (ns ++ Some n ∷ []) ps → Inverse ns (slice_set ps n None)
last_released ns ps n inv =
    shortened ns (slice_set ps n None) (subst (λ (ms : List (Option ℕ)). Inverse ms (slice_set ps n None)) (set_end ns (Some n) None)
    (released (ns ++ Some n ∷ []) ps (length ns) n inv (at_end ns (Some n))))

pub last_within : (ns ps : List (Option ℕ)) (n : ℕ) → Inverse (ns ++ Some n ∷ []) ps → n < length ps
last_within ns ps n inv = within ps n (Some (length ns)) ((inv (length ns) n).0 (at_end ns (Some n)))

-- a number more, that is nowhere
pub none_more : (ns ps : List (Option ℕ)) → Inverse ns ps → Inverse ns (ps ++ None ∷ [])
none_more ns ps inv = turned (ps ++ None ∷ []) ns (widened ps ns (turned ns ps inv))
