-- Rows that are the same have the same mark.
use Rattle.std.proofs.Common.{◌≡◌, ◌==◌, eq-eqb, refl, sym, ap, ◌∙◌, ◌++◌, length, get_or, Option, None, ℕ, true, List, [], ◌∷◌, fold, Some}
use Rattle.std.specs.Ordering.{is_eq}
use Rattle.pl_base.specs.declared.value.Value.{Value}
use Rattle.pl_keys.specs.Marks.{mark_of, mixed, noted, with_value}
use Rattle.pl_keys.specs.Order.{value_order}
use Rattle.pl_keys.specs.Same.{place_of, same}
use Rattle.pl_keys.proofs.Places.{first, none, push}
use Rattle.pl_keys.proofs.Plain.{each, tie, values_marked}

rows_marked : (a b : List Value) (m : ℕ) → same a b ≡ true → fold with_value m a ≡ fold with_value m b
rows_marked [] [] m is = refl
rows_marked [] (y ∷ b) m is = cc
rows_marked (x ∷ a) [] m is = cc
rows_marked (x ∷ a) (y ∷ b) m is =
    let h = each (is_eq (value_order x y)) (same a b) is in
    ap (λ n. fold with_value (mixed m n) a) (values_marked x y (tie (value_order x y) h.0)) ∙ rows_marked a b (with_value m y) h.1

pub marked : (a b : List Value) → same a b ≡ true → mark_of a ≡ mark_of b
marked a b is = rows_marked a b 0 is

carried : (row : List Value) (m : ℕ) → m ≡ mark_of row → (other : List Value) → same row other ≡ true → (mark_of other == m) ≡ true
carried row m is other alike = eq-eqb (mark_of other) m (sym (marked row other alike) ∙ sym is)

-- no row of the mark, so none that is the same
pub unknown : (row : List Value) (rows : List (List Value)) (m : ℕ) → m ≡ mark_of row → place_of (λ other. mark_of other == m) rows ≡ None → place_of (same row) rows ≡ None
unknown row rows m is absent = none (same row) (λ other. mark_of other == m) (carried row m is) rows absent

-- the first row of the mark is the first that is the same, if it is the same
pub near : (row : List Value) (rows : List (List Value)) (m k : ℕ) (d : List Value) → m ≡ mark_of row → place_of (λ other. mark_of other == m) rows ≡ Some k → same row (get_or rows k d) ≡ true → place_of (same row) rows ≡ Some k
near row rows m k d is found alike = first (same row) (λ other. mark_of other == m) (carried row m is) rows k d found alike

-- the first place of each mark, with one more row
pub noted_is : (rows : List (List Value)) (row : List Value) (m n q : ℕ) (old new : Option ℕ) (longer : List (List Value)) → m ≡ mark_of row → n ≡ length rows
    → old ≡ place_of (λ other. mark_of other == q) rows → longer ≡ rows ++ row ∷ [] → new ≡ noted m n q old → new ≡ place_of (λ other. mark_of other == q) longer
noted_is rows row m n q old new longer is-m is-n is-old is-longer is-new = rw (is-new, is-longer, is-old, is-m, is-n, push (λ other. mark_of other == q) rows row) refl
