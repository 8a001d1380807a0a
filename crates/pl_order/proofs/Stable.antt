-- A stable sort has one answer: the list that is made by putting each item in its place.
use Rattle.std.proofs.Common.{◌≡◌, refl, sym, ap, ◌∙◌, subst, ℕ, suc, ◌<◌, ◌≤◌, Bool, true, false, not, ◌&&◌, cond, List, [], ◌∷◌, length, get_or, filter, arith, if◌then◌else◌}
use Rattle.std.proofs.lemmas.Bool.{false≢true}
use Rattle.std.proofs.lemmas.List.Sorted.{sorted_far}
use Rattle.std.specs.Cmp.{IsStrictWeakOrder}
use Rattle.std.specs.List.Sorted.{IsSortedBy, IsStableBy, ties}
use Rattle.std.specs.Ordering.{is_lt}
use Rattle.std.specs.declared.cmp.Ordering.{Ordering}
use Rattle.pl_order.specs.Order.{placed, sorted}

untied : (b c : Bool) → (not b && not c) ≡ true → (b ≡ false) × (c ≡ false)
untied true c e = cc
untied false true e = cc
untied false false e = (refl, refl)

module _ {X : Type 0} where
  tails : (y : X) (ys zs : List X) (b : Bool) → cond b (y ∷ ys) ys ≡ cond b (y ∷ zs) zs → ys ≡ zs
  tails y ys zs true is = cc
  tails y ys zs false is = is

  -- x and z change places in a list of which one isn't kept
  changed : (x z : X) (l : List X) (c d : Bool) → (c ≡ true → d ≡ true → ⊥) → cond c (z ∷ cond d (x ∷ l) l) (cond d (x ∷ l) l) ≡ cond d (x ∷ cond c (z ∷ l) l) (cond c (z ∷ l) l)
  changed x z l true true one = absurd (one refl refl)
  changed x z l true false one = refl
  changed x z l false true one = refl
  changed x z l false false one = refl

module _ {X : Type 0} (order : X → X → Ordering) where
  abbrev lt : X → X → Bool
  lt x y = is_lt (order x y)

  -- no item of the list is less than x
  abbrev Above : X → List X → Type 0
  Above x [] = Unit {0}
  Above x (y ∷ ys) = (lt y x ≡ false) × Above x ys

  abbrev Up : List X → Type 0
  Up [] = Unit {0}
  Up (x ∷ xs) = Above x xs × Up xs

  above_of : (x : X) (xs : List X) → ((k : ℕ) → k < length xs → lt (get_or xs k x) x ≡ false) → Above x xs
  above_of x [] h = tt
  above_of x (y ∷ ys) h = (h 0 (omega arith), above_of x ys (λ k p. h (suc k) (omega (arith, p))))

  up_of : (xs : List X) → ((i j : ℕ) (d : X) → i ≤ j → j < length xs → lt (get_or xs j d) (get_or xs i d) ≡ false) → Up xs
  up_of [] h = tt
  up_of (x ∷ xs) h = (above_of x xs (λ k p. h 0 (suc k) x (omega arith) (omega (arith, p))), up_of xs (λ i j d p q. h (suc i) (suc j) d (omega (arith, p)) (omega (arith, q))))

  module _ (o : IsStrictWeakOrder lt) where
    itself : (x : X) (b : Bool) → lt x x ≡ b → b ≡ false
    itself x true is = sym is ∙ o.one_way x x is
    itself x false is = refl

    tied : (x : X) → ties lt x x ≡ true
    tied x = let e : lt x x ≡ false = itself x (lt x x) refl in rw e refl

    -- what is above y is above what y isn't less than
    above_more : (x y : X) (ys : List X) → lt y x ≡ false → Above y ys → Above x ys
    above_more x y [] lower h = tt
    above_more x y (z ∷ ys) lower h = (o.chain z y x h.0 lower, above_more x y ys lower h.1)

    above_placed_if : (y x z : X) (ys : List X) (b : Bool) → lt x y ≡ false → Above y (z ∷ ys) → Above y (placed order x ys) → Above y (if b then z ∷ placed order x ys else x ∷ (z ∷ ys))
    above_placed_if y x z ys true not_less h more = (h.0, more)
    above_placed_if y x z ys false not_less h more = (not_less, h)

    above_placed : (y x : X) (ys : List X) → lt x y ≡ false → Above y ys → Above y (placed order x ys)
    above_placed y x [] not_less h = (not_less, tt)
    above_placed y x (z ∷ ys) not_less h = above_placed_if y x z ys (lt z x) not_less h (above_placed y x ys not_less h.1)

    up_placed_if : (x z : X) (ys : List X) (b : Bool) → lt z x ≡ b → Up (z ∷ ys) → Up (placed order x ys) → Up (if b then z ∷ placed order x ys else x ∷ (z ∷ ys))
    up_placed_if x z ys true is h more = (above_placed z x ys (o.one_way z x is) h.0, more)
    up_placed_if x z ys false is h more = ((is, above_more x z ys is h.0), h)

    up_placed : (x : X) (ys : List X) → Up ys → Up (placed order x ys)
    up_placed x [] h = (tt, tt)
    up_placed x (z ∷ ys) h = up_placed_if x z ys (lt z x) refl h (up_placed x ys h.1)

    up_sorted : (xs : List X) → Up (sorted order xs)
    up_sorted [] = tt
    up_sorted (x ∷ xs) = up_placed x (sorted order xs) (up_sorted xs)

    -- what is less than x doesn't tie with what x ties with
    apart : (t z x : X) → lt z x ≡ true → ties lt t z ≡ true → ties lt t x ≡ true → ⊥
    apart t z x less z-ties x-ties =
        let from_z = untied (lt t z) (lt z t) z-ties in
        let from_x = untied (lt t x) (lt x t) x-ties in
        false≢true (sym (o.chain z t x from_z.1 from_x.0) ∙ less)

    kept_placed_if : (t x z : X) (ys : List X) (b : Bool) → lt z x ≡ b → filter (ties lt t) (placed order x ys) ≡ filter (ties lt t) (x ∷ ys)
        → filter (ties lt t) (if b then z ∷ placed order x ys else x ∷ (z ∷ ys)) ≡ filter (ties lt t) (x ∷ (z ∷ ys))
    kept_placed_if t x z ys true is more =
        ap (λ (l : List X). cond (ties lt t z) (z ∷ l) l) more
        ∙ changed x z (filter (ties lt t) ys) (ties lt t z) (ties lt t x) (apart t z x is)
    kept_placed_if t x z ys false is more = refl

    kept_placed : (t x : X) (ys : List X) → filter (ties lt t) (placed order x ys) ≡ filter (ties lt t) (x ∷ ys)
    kept_placed t x [] = refl
    kept_placed t x (z ∷ ys) = kept_placed_if t x z ys (lt z x) refl (kept_placed t x ys)

    kept_sorted : (t : X) (xs : List X) → filter (ties lt t) (sorted order xs) ≡ filter (ties lt t) xs
    kept_sorted t [] = refl
    kept_sorted t (x ∷ xs) = kept_placed t x (sorted order xs) ∙ ap (λ (l : List X). cond (ties lt t x) (x ∷ l) l) (kept_sorted t xs)

    -- ---- two lists in order whose ties are the same are the same

    head_if : (z x y : X) (b : Bool) (l rest : List X) → lt x z ≡ false → (l ≡ y ∷ rest → lt y z ≡ false) → cond b (x ∷ l) l ≡ y ∷ rest → lt y z ≡ false
    head_if z x y true l rest h more is = let e : x ≡ y = cc is in rw (← e) h
    head_if z x y false l rest h more is = more is

    -- what is kept first is no less than the head
    head_above : (z : X) (test : X → Bool) (ys : List X) (y : X) (rest : List X) → Above z ys → filter test ys ≡ y ∷ rest → lt y z ≡ false
    head_above z test [] y rest h is = cc
    head_above z test (x ∷ ys) y rest h is = head_if z x y (test x) (filter test ys) rest h.0 (head_above z test ys y rest h.1) is

    keeps_head : (t : X) (ys : List X) → filter (ties lt t) (t ∷ ys) ≡ t ∷ filter (ties lt t) ys
    keeps_head t ys = let e : ties lt t t ≡ true = tied t in rw e refl

    same_heads : (y z : X) (ys zs : List X) → Up (y ∷ ys) → Up (z ∷ zs) → ((t : X) → filter (ties lt t) (y ∷ ys) ≡ filter (ties lt t) (z ∷ zs)) → ties lt y z ≡ true
    same_heads y z ys zs up up' same =
        let not_above : lt y z ≡ false = head_above z (ties lt y) (z ∷ zs) y (filter (ties lt y) ys) (itself z (lt z z) refl, up'.0) (sym (same y) ∙ keeps_head y ys) in
        let not_below : lt z y ≡ false = head_above y (ties lt z) (y ∷ ys) z (filter (ties lt z) zs) (itself y (lt y y) refl, up.0) (same z ∙ keeps_head z zs) in
        rw (not_above, not_below) refl

    heads : (y z : X) (ys zs : List X) → ties lt y z ≡ true → filter (ties lt y) (y ∷ ys) ≡ filter (ties lt y) (z ∷ zs) → y ≡ z
    heads y z ys zs tie same =
        let e : y ∷ filter (ties lt y) ys ≡ z ∷ filter (ties lt y) zs = sym (keeps_head y ys) ∙ (same ∙ rw tie refl) in
        cc

    unique : (ys zs : List X) → Up ys → Up zs → ((t : X) → filter (ties lt t) ys ≡ filter (ties lt t) zs) → ys ≡ zs
    unique [] [] up up' same = refl
    unique [] (z ∷ zs) up up' same = let e : [] ≡ z ∷ filter (ties lt z) zs = same z ∙ keeps_head z zs in cc
    unique (y ∷ ys) [] up up' same = let e : y ∷ filter (ties lt y) ys ≡ [] = sym (keeps_head y ys) ∙ same y in cc
    unique (y ∷ ys) (z ∷ zs) up up' same =
        let e : y ≡ z = heads y z ys zs (same_heads y z ys zs up up' same) (same y) in
        ap (λ (x : X). x ∷ ys) e ∙ ap (λ (l : List X). z ∷ l) (unique ys zs up.1 up'.1 (λ t. tails z (filter (ties lt t) ys) (filter (ties lt t) zs) (ties lt t z) (subst (λ (x : X). cond (ties lt t x) (x ∷ filter (ties lt t) ys) (filter (ties lt t) ys) ≡ filter (ties lt t) (z ∷ zs)) e (same t))))

    -- what a stable sort leaves
    pub stable_sort : (xs ys : List X) → IsSortedBy lt ys → IsStableBy lt xs ys → ys ≡ sorted order xs
    stable_sort xs ys up stable =
        unique ys (sorted order xs) (up_of ys (sorted_far lt o ys up)) (up_sorted xs) (λ t. stable t ∙ sym (kept_sorted t xs))
