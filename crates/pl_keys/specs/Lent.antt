-- Proofs that other crates' proofs may cite; no definition. The order of values is total, and which
-- rows are the same is an equivalence. Whether one of a list passes a test.
use Rattle.std.proofs.Common.{◌≡◌, refl, sym, subst, ap, ◌∙◌, ℕ, suc, ℤ, pos, ◌<◌, ◌≤◌, Bool, true, false, cond, ◌||◌, nat_lt, ◌==◌, List, [], ◌∷◌, Option, Some, None, option_map, arith}
use Rattle.std.proofs.lemmas.Bool.{ltb-true, ltb-false, eqb-true, eqb-false}
use Rattle.std.specs.Cmp.{IsEquivalence, IsTotalOrder, eq_by_cmp_equiv, int_cmp_total, on_total}
use Rattle.std.specs.Cmp.Lexicographic.{slice_cmp, lists_equiv, lists_total}
use Rattle.std.specs.Ordering.{nat_cmp, int_cmp, ordering_then}
use Rattle.std.specs.declared.cmp.Ordering.{Ordering}
use Rattle.std.specs.declared.cmp.Ordering.TheVariants.{Less, Equal, Greater}
use Rattle.std.specs.List.{list_any}
use Rattle.pl_base.specs.declared.value.Value.{Value, Row', Row_of-Field, end_of-Field, more_of-Field}
use Rattle.pl_base.specs.declared.value.Value.TheVariants.{Null, Int, Big, Text, Bool as Truth}
use Rattle.pl_keys.specs.Order.{value_order, row_order}
use Rattle.pl_keys.specs.Same.{place_of, same}

assoc : (p q r : Ordering) → ordering_then (ordering_then p q) r ≡ ordering_then p (ordering_then q r)
assoc Less q r = refl
assoc Equal q r = refl
assoc Greater q r = refl

then_same : (o : Ordering) → ordering_then o Equal ≡ o
then_same Less = refl
then_same Equal = refl
then_same Greater = refl

naturals_if : (m n : ℕ) (a b c : Bool) → nat_lt m n ≡ a → nat_lt n m ≡ b → (m == n) ≡ c → (let r : Ordering = cond a Less (cond b Greater Equal) in r) ≡ cond a Less (cond c Equal Greater)
naturals_if m n true b c p q e = refl
naturals_if m n false true true p q e = let h : n < m = ltb-true n m q in let k : m ≡ n = eqb-true m n e in absurd (omega (arith, h, k))
naturals_if m n false true false p q e = refl
naturals_if m n false false true p q e = refl
naturals_if m n false false false p q e = let h : n ≤ m = ltb-false m n p in let k : m ≤ n = ltb-false n m q in absurd (eqb-false m n e (omega (arith, h, k)))

naturals : (m n : ℕ) → int_cmp (pos m) (pos n) ≡ nat_cmp m n
naturals m n = naturals_if m n (nat_lt m n) (nat_lt n m) (m == n) refl refl refl

-- a text between other numbers: a 1 before each byte, and a 0 behind the last
abbrev pub text_numbers : List ℕ → List ℤ → List ℤ
text_numbers [] more = pos 0 ∷ more
text_numbers (b ∷ t) more = pos 1 ∷ (pos b ∷ text_numbers t more)

-- a value as whole numbers, of which the first that differ decide, before other numbers
abbrev mutual
  pub numbers : Value → List ℤ → List ℤ
  numbers (Truth true) more = pos 0 ∷ (pos 1 ∷ more)
  numbers (Truth false) more = pos 0 ∷ (pos 0 ∷ more)
  numbers (Int z) more = pos 1 ∷ (z ∷ more)
  numbers (Big z) more = pos 1 ∷ (z ∷ more)
  numbers (Text t) more = pos 2 ∷ text_numbers t more
  numbers (Row' _ fields) more = pos 3 ∷ row_numbers fields more
  numbers Null more = pos 4 ∷ more

  pub row_numbers : {m : _} → Row_of-Field m → List ℤ → List ℤ
  row_numbers end_of-Field more = pos 0 ∷ more
  row_numbers (more_of-Field _ _ v rest) more = pos 1 ∷ numbers v (row_numbers rest more)

abbrev pub cmp : List ℤ → List ℤ → Ordering
cmp m n = slice_cmp int_cmp m n

texts : (t u : List ℕ) (m n : List ℤ) → cmp (text_numbers t m) (text_numbers u n) ≡ ordering_then (slice_cmp nat_cmp t u) (cmp m n)
texts [] [] m n = refl
texts [] (c ∷ u) m n = refl
texts (b ∷ t) [] m n = refl
texts (b ∷ t) (c ∷ u) m n =
    ap (λ (o : Ordering). ordering_then o (cmp (text_numbers t m) (text_numbers u n))) (naturals b c)
    ∙ (ap (ordering_then (nat_cmp b c)) (texts t u m n) ∙ sym (assoc (nat_cmp b c) (slice_cmp nat_cmp t u) (cmp m n)))

mutual
  values : (a b : Value) (m n : List ℤ) → cmp (numbers a m) (numbers b n) ≡ ordering_then (value_order a b) (cmp m n)
  values (Truth true) (Truth true) m n = refl
  values (Truth true) (Truth false) m n = refl
  values (Truth true) (Int y) m n = refl
  values (Truth true) (Big y) m n = refl
  values (Truth true) (Text u) m n = refl
  values (Truth true) (Row' _ g) m n = refl
  values (Truth true) Null m n = refl
  values (Truth false) (Truth true) m n = refl
  values (Truth false) (Truth false) m n = refl
  values (Truth false) (Int y) m n = refl
  values (Truth false) (Big y) m n = refl
  values (Truth false) (Text u) m n = refl
  values (Truth false) (Row' _ g) m n = refl
  values (Truth false) Null m n = refl
  values (Int x) (Truth true) m n = refl
  values (Int x) (Truth false) m n = refl
  values (Int x) (Int y) m n = refl
  values (Int x) (Big y) m n = refl
  values (Int x) (Text u) m n = refl
  values (Int x) (Row' _ g) m n = refl
  values (Int x) Null m n = refl
  values (Big x) (Truth true) m n = refl
  values (Big x) (Truth false) m n = refl
  values (Big x) (Int y) m n = refl
  values (Big x) (Big y) m n = refl
  values (Big x) (Text u) m n = refl
  values (Big x) (Row' _ g) m n = refl
  values (Big x) Null m n = refl
  values (Text t) (Truth true) m n = refl
  values (Text t) (Truth false) m n = refl
  values (Text t) (Int y) m n = refl
  values (Text t) (Big y) m n = refl
  values (Text t) (Text u) m n = texts t u m n
  values (Text t) (Row' _ g) m n = refl
  values (Text t) Null m n = refl
  values (Row' _ f) (Truth true) m n = refl
  values (Row' _ f) (Truth false) m n = refl
  values (Row' _ f) (Int y) m n = refl
  values (Row' _ f) (Big y) m n = refl
  values (Row' _ f) (Text u) m n = refl
  values (Row' _ f) (Row' _ g) m n = rows f g m n
  values (Row' _ f) Null m n = refl
  values Null (Truth true) m n = refl
  values Null (Truth false) m n = refl
  values Null (Int y) m n = refl
  values Null (Big y) m n = refl
  values Null (Text u) m n = refl
  values Null (Row' _ g) m n = refl
  values Null Null m n = refl

  rows : {i : _} (f : Row_of-Field i) {j : _} (g : Row_of-Field j) (m n : List ℤ) → cmp (row_numbers f m) (row_numbers g n) ≡ ordering_then (row_order f g) (cmp m n)
  rows end_of-Field end_of-Field m n = refl
  rows end_of-Field (more_of-Field _ _ w others) m n = refl
  rows (more_of-Field _ _ v rest) end_of-Field m n = refl
  rows (more_of-Field _ _ v rest) (more_of-Field _ _ w others) m n =
      values v w (row_numbers rest m) (row_numbers others n)
      ∙ (ap (ordering_then (value_order v w)) (rows rest others m n) ∙ sym (assoc (value_order v w) (row_order rest others) (cmp m n)))

pub as_numbers : (a b : Value) → cmp (numbers a []) (numbers b []) ≡ value_order a b
as_numbers a b = values a b [] [] ∙ then_same (value_order a b)

pub numbers_total : IsTotalOrder cmp
numbers_total = lists_total int_cmp_total

pub values_total : IsTotalOrder value_order
values_total = subst IsTotalOrder (λ i a b. as_numbers a b i) (on_total (λ (v : Value). numbers v []) numbers_total)

pub rows_same : IsEquivalence same
rows_same = lists_equiv (eq_by_cmp_equiv values_total)

-- ---- whether one of a list passes, by the place of the first that does

absent_if : (b r : Bool) (o : Option ℕ) → (o ≡ None → r ≡ false) → cond b (Some 0) (option_map suc o) ≡ None → (b || r) ≡ false
absent_if true r o rest is = cc
absent_if false r None rest is = rest refl
absent_if false r (Some n) rest is = cc

present_if : (b r : Bool) (o : Option ℕ) (k : ℕ) → ((n : ℕ) → o ≡ Some n → r ≡ true) → cond b (Some 0) (option_map suc o) ≡ Some k → (b || r) ≡ true
present_if true r o k rest is = refl
present_if false r None k rest is = cc
present_if false r (Some n) k rest is = rest n refl

module _ {A : Type 0} (p : A → Bool) where
  pub absent : (xs : List A) → place_of p xs ≡ None → list_any p xs ≡ false
  absent [] is = refl
  absent (x ∷ xs) is = absent_if (p x) (list_any p xs) (place_of p xs) (absent xs) is

  pub present : (xs : List A) (k : ℕ) → place_of p xs ≡ Some k → list_any p xs ≡ true
  present [] k is = cc
  present (x ∷ xs) k is = present_if (p x) (list_any p xs) (place_of p xs) k (present xs) is
