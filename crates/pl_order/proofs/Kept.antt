-- What is kept of rows one after the other is the first of those that are the same.
use Rattle.std.proofs.Common.{◌≡◌, refl, sym, ap, ◌∙◌, suc, Bool, true, false, not, ◌&&◌, ◌||◌, cond, ℕ, Option, Some, None, List, [], ◌∷◌, ◌++◌, length, filter, append_assoc, arith}
use Rattle.std.proofs.lemmas.List.{append-nil}
use Rattle.std.proofs.lemmas.List.Folds.{list_any-append}
use Rattle.std.specs.List.{list_any}
use Rattle.pl_base.specs.declared.value.Value.{Value}
use Rattle.pl_keys.specs.Lent.{absent, present, rows_same}
use Rattle.pl_keys.specs.Same.{firsts, place_of, same, with_row}

-- none of the rows is the same
abbrev pub is_new : List (List Value) → List Value → Bool
is_new done row = not (list_any (same row) done)

module _ {A : Type 0} where
  filtered_if : (p q r : Bool) (x : A) (l m : List A) → (q && p) ≡ r → l ≡ m → cond q (cond p (x ∷ l) l) l ≡ cond r (x ∷ m) m
  filtered_if true true true x l m is same = ap (λ k. x ∷ k) same
  filtered_if true true false x l m is same = cc
  filtered_if false true true x l m is same = cc
  filtered_if false true false x l m is same = same
  filtered_if true false true x l m is same = cc
  filtered_if true false false x l m is same = same
  filtered_if false false true x l m is same = cc
  filtered_if false false false x l m is same = same

  through : (p : A → Bool) (q : Bool) (x : A) (l : List A) → filter p (cond q (x ∷ l) l) ≡ cond q (cond (p x) (x ∷ filter p l) (filter p l)) (filter p l)
  through p true x l = refl
  through p false x l = refl

  -- one filter behind the other
  filtered : (p q r : A → Bool) → ((x : A) → (q x && p x) ≡ r x) → (xs : List A) → filter p (filter q xs) ≡ filter r xs
  filtered p q r both [] = refl
  filtered p q r both (x ∷ xs) = through p (q x) x (filter q xs) ∙ filtered_if (p x) (q x) (r x) x (filter p (filter q xs)) (filter r xs) (both x) (filtered p q r both xs)

  all_kept : (p : A → Bool) → ((x : A) → p x ≡ true) → (xs : List A) → filter p xs ≡ xs
  all_kept p each [] = refl
  all_kept p each (x ∷ xs) = rw (each x, all_kept p each xs) refl

alike : (row x : List Value) → same row x ≡ true → (done : List (List Value)) → list_any (same x) done ≡ list_any (same row) done
alike row x is [] = refl
alike row x is (d ∷ done) = let e : same row d ≡ same x d = rows_same.congr row x d is in rw (e, alike row x is done) refl

hidden_if : (s a b : Bool) → b ≡ true → (s ≡ true → a ≡ b) → (not s && not a) ≡ not a
hidden_if false a b is same = refl
hidden_if true a b is same = let e : a ≡ true = same refl ∙ is in rw e refl

-- what is the same as a row that isn't new isn't new
hidden : (done : List (List Value)) (row x : List Value) → list_any (same row) done ≡ true → (not (same row x) && is_new done x) ≡ is_new done x
hidden done row x is = hidden_if (same row x) (list_any (same x) done) (list_any (same row) done) is (λ s. alike row x s done)

shown_if : (s a : Bool) → (not s && not a) ≡ not (a || (s || false))
shown_if true true = refl
shown_if true false = refl
shown_if false true = refl
shown_if false false = refl

-- what is new beside one row more
shown : (done : List (List Value)) (row x : List Value) → (not (same row x) && is_new done x) ≡ is_new (done ++ row ∷ []) x
shown done row x = rw (list_any-append, rows_same.symm row x) (shown_if (same x row) (list_any (same x) done))

step_if : (done : List (List Value)) (row : List Value) (rest : List (List Value)) (o : Option ℕ) → place_of (same row) done ≡ o
    → (let next : List (List Value) = with_row o done row in done ++ filter (is_new done) (firsts (row ∷ rest)) ≡ next ++ filter (is_new next) (firsts rest))
step_if done row rest (Some place) at =
    let is : list_any (same row) done ≡ true = present (same row) done place at in
    ap (λ l. done ++ l) (rw is (filtered (is_new done) (λ x. not (same row x)) (is_new done) (λ x. hidden done row x is) (firsts rest)))
step_if done row rest None at =
    let is : list_any (same row) done ≡ false = absent (same row) done at in
    ap (λ l. done ++ l) (rw is (ap (λ l. row ∷ l) (filtered (is_new done) (λ x. not (same row x)) (is_new (done ++ row ∷ [])) (λ x. shown done row x) (firsts rest))))
    ∙ sym (append_assoc done (row ∷ []) (filter (is_new (done ++ row ∷ [])) (firsts rest)))

pub at_first : (rows done rest : List (List Value)) → done ≡ [] → rest ≡ rows → firsts rows ≡ done ++ filter (is_new done) (firsts rest)
at_first rows done rest is-done is-rest = rw (is-done, is-rest, all_kept (is_new []) (λ x. refl) (firsts rows)) refl

pub at_row : (done : List (List Value)) (row : List Value) (rest more next : List (List Value)) → rest ≡ row ∷ more → next ≡ with_row (place_of (same row) done) done row
    → done ++ filter (is_new done) (firsts rest) ≡ next ++ filter (is_new next) (firsts more)
at_row done row rest more next is-rest is-next = rw (is-rest, is-next) (step_if done row more (place_of (same row) done) refl)

pub at_last : (done rest : List (List Value)) → length rest ≡ 0 → done ++ filter (is_new done) (firsts rest) ≡ done
at_last done [] none = append-nil done
at_last done (row ∷ rest) none = absurd (let e : suc (length rest) ≡ 0 = none in omega (arith, e))
