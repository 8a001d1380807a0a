-- The only one of a list that passes a test.
use Rattle.std.proofs.Common.{◌≡◌, ◌∙◌, ◌-◌, ◌<◌, refl, sym, ap, arith, Bool, true, false, ◌||◌, List, [], ◌∷◌, length, take, drop}
use Rattle.std.proofs.lemmas.List.{take_all}
use Rattle.std.specs.List.{filter, list_any}
use Rattle.std.specs.Prelude.{slice_index_or}
use Rattle.pl_ddl.specs.Naming.{only}
use Rattle.pl_ddl.specs.Written.{Name}

none_if : {A : Type 0} (test : A → Bool) (x : A) (xs : List A) (b : Bool) → test x ≡ b → (b || list_any test xs) ≡ false → (list_any test xs ≡ false → filter test xs ≡ [])
    → filter test (x ∷ xs) ≡ []
none_if test x xs true is nowhere rest = cc
none_if test x xs false is nowhere rest = rw is (rest nowhere)

none_pass : {A : Type 0} (test : A → Bool) (xs : List A) → list_any test xs ≡ false → filter test xs ≡ []
none_pass test [] nowhere = refl
none_pass test (x ∷ xs) nowhere = none_if test x xs (test x) refl nowhere (none_pass test xs)

some_if : {A : Type 0} (test : A → Bool) (x : A) (xs : List A) (b : Bool) → test x ≡ b → (b || list_any test xs) ≡ true
    → (list_any test xs ≡ true → (y : A) × (ys : List A) × (filter test xs ≡ y ∷ ys))
    → (y : A) × (ys : List A) × (filter test (x ∷ xs) ≡ y ∷ ys)
some_if test x xs true is somewhere rest = (x, filter test xs, rw is refl)
some_if test x xs false is somewhere rest =
    let found = rest somewhere in (found.0, found.1, rw is found.2)

some_pass : {A : Type 0} (test : A → Bool) (xs : List A) → list_any test xs ≡ true → (y : A) × (ys : List A) × (filter test xs ≡ y ∷ ys)
some_pass test [] somewhere = let bad : ⊥ = cc in absurd bad
some_pass test (x ∷ xs) somewhere = some_if test x xs (test x) refl somewhere (some_pass test xs)

-- the first that passes, with none behind it
one : (test : Name → Bool) (x : Name) (xs : List Name) → test x ≡ true → list_any test xs ≡ false → only (filter test (x ∷ xs)) ≡ x ∷ []
one test x xs is nowhere = rw (is, none_pass test xs nowhere) refl

-- with another behind it
another : (test : Name → Bool) (x : Name) (xs : List Name) → test x ≡ true → list_any test xs ≡ true → only (filter test (x ∷ xs)) ≡ []
another test x xs is somewhere = let found = some_pass test xs somewhere in rw (is, found.2) refl

-- one that doesn't pass
pub not_this : (test : Name → Bool) (x : Name) (xs : List Name) → test x ≡ false → only (filter test (x ∷ xs)) ≡ only (filter test xs)
not_this test x xs is = rw is refl

-- ---- the same of a list that is read from its front

rest_is : (xs : List Name) → take (length xs - 1) (drop 1 xs) ≡ drop 1 xs
rest_is [] = refl
rest_is (x ∷ xs) = take_all (length (x ∷ xs) - 1) xs (omega arith)

opened : (xs : List Name) (x : Name) → 0 < length xs → x ≡ slice_index_or xs 0 x → xs ≡ x ∷ drop 1 xs
opened [] x some is = absurd (omega arith)
opened (y ∷ ys) x some is = ap (λ (z : Name). z ∷ ys) (sym is)

module _ (test : Name → Bool) (xs : List Name) (x : Name) (some : 0 < length xs) (is : x ≡ slice_index_or xs 0 x) (here : test x ≡ true) where
  behind : (b : Bool) → list_any test (take (length xs - 1) (drop 1 xs)) ≡ b → list_any test (drop 1 xs) ≡ b
  behind b others = ap (λ (l : List Name). list_any test l) (sym (rest_is xs)) ∙ others

  pub front_alone : list_any test (take (length xs - 1) (drop 1 xs)) ≡ false → only (filter test xs) ≡ x ∷ []
  front_alone others = ap (λ (l : List Name). only (filter test l)) (opened xs x some is) ∙ one test x (drop 1 xs) here (behind false others)

  pub front_and_others : list_any test (take (length xs - 1) (drop 1 xs)) ≡ true → only (filter test xs) ≡ []
  front_and_others others = ap (λ (l : List Name). only (filter test l)) (opened xs x some is) ∙ another test x (drop 1 xs) here (behind true others)
