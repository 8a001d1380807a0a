-- Rows whose item is a number stand in the order of the numbers.
use Rattle.std.proofs.Common.{◌≡◌, refl, sym, ap, ◌∙◌, ℕ, ℤ, pos, Bool, true, false, ◌&&◌, List, [], ◌∷◌, if◌then◌else◌, is_some, unwrap_or}
use Rattle.std.specs.Cmp.{IsStrictWeakOrder, IsTotalOrder, back_total, int_cmp_total, on_total}
use Rattle.std.specs.List.{list_all}
use Rattle.std.specs.Ordering.{is_lt, int_cmp, ordering_then}
use Rattle.std.specs.declared.cmp.Ordering.{Ordering}
use Rattle.std.specs.declared.cmp.Ordering.TheVariants.{Less, Equal, Greater}
use Rattle.std.proofs.lemmas.List.Sorted.{ranks_by}
use Rattle.pl_base.specs.declared.value.Value.{Value, Row'}
use Rattle.pl_base.specs.declared.value.Value.TheVariants.{Null, Int, Big, Text, Bool as Truth}
use Rattle.pl_keys.specs.Order.{value_at}
use Rattle.pl_order.specs.Numbers.{falling, has_number, number, number_at, rising}
use Rattle.pl_order.specs.Order.{key_order, order_by, placed, sorted}
use Rattle.pl_resolved.specs.declared.query.RKey.{RKey}

rising_total : (item : ℕ) → IsTotalOrder (rising item)
rising_total item = on_total (number_at item) int_cmp_total

pub rising_ranked : (item : ℕ) → IsStrictWeakOrder (λ a b. is_lt (rising item a b))
rising_ranked item = ranks_by (rising_total item) (λ (row : List Value). row)

pub falling_ranked : (item : ℕ) → IsStrictWeakOrder (λ a b. is_lt (falling item a b))
falling_ranked item = ranks_by (back_total (rising_total item)) (λ (row : List Value). row)

each : (a b : Bool) → a && b ≡ true → (a ≡ true) × (b ≡ true)
each true true is = (refl, refl)
each true false is = cc
each false b is = cc

-- two orders that agree where a test passes sort those that pass alike
module _ {X : Type 0} (p : X → Bool) (order other : X → X → Ordering) (agree : (x y : X) → p x ≡ true → p y ≡ true → order x y ≡ other x y) where
  passes_if : (b : Bool) (x y : X) (ys : List X) → p x ≡ true → list_all p (y ∷ ys) ≡ true → list_all p (placed order x ys) ≡ true → list_all p (if b then y ∷ placed order x ys else x ∷ (y ∷ ys)) ≡ true
  passes_if true x y ys px all more = let h = each (p y) (list_all p ys) all in rw (h.0, more) refl
  passes_if false x y ys px all more = rw (px, all) refl

  passes : (x : X) (ys : List X) → p x ≡ true → list_all p ys ≡ true → list_all p (placed order x ys) ≡ true
  passes x [] px all = rw px refl
  passes x (y ∷ ys) px all = passes_if (is_lt (order y x)) x y ys px all (passes x ys px (each (p y) (list_all p ys) all).1)

  all_pass : (xs : List X) → list_all p xs ≡ true → list_all p (sorted order xs) ≡ true
  all_pass [] all = refl
  all_pass (x ∷ xs) all = let h = each (p x) (list_all p xs) all in passes x (sorted order xs) h.0 (all_pass xs h.1)

  placed_alike : (x : X) (ys : List X) → p x ≡ true → list_all p ys ≡ true → placed order x ys ≡ placed other x ys
  placed_alike x [] px all = refl
  placed_alike x (y ∷ ys) px all =
      let h = each (p y) (list_all p ys) all in
      rw (agree y x h.0 px, placed_alike x ys px h.1) refl

  pub sorted_alike : (xs : List X) → list_all p xs ≡ true → sorted order xs ≡ sorted other xs
  sorted_alike [] all = refl
  sorted_alike (x ∷ xs) all =
      let h = each (p x) (list_all p xs) all in
      placed_alike x (sorted order xs) h.0 (all_pass xs h.1) ∙ ap (placed other x) (sorted_alike xs h.1)

then_same : (o : Ordering) → ordering_then o Equal ≡ o
then_same Less = refl
then_same Equal = refl
then_same Greater = refl

abbrev or_zero : Value → ℤ
or_zero v = unwrap_or (number v) (pos 0)

rises : (key : RKey) (a b : Value) → key.is_descending ≡ false → is_some (number a) ≡ true → is_some (number b) ≡ true → key_order key a b ≡ int_cmp (or_zero a) (or_zero b)
rises key (Int x) (Int y) is p q = rw is refl
rises key (Int x) (Big y) is p q = rw is refl
rises key (Big x) (Int y) is p q = rw is refl
rises key (Big x) (Big y) is p q = rw is refl
rises key (Int x) Null is p q = cc
rises key (Int x) (Truth b) is p q = cc
rises key (Int x) (Text b) is p q = cc
rises key (Int x) (Row' _ b) is p q = cc
rises key (Big x) Null is p q = cc
rises key (Big x) (Truth b) is p q = cc
rises key (Big x) (Text b) is p q = cc
rises key (Big x) (Row' _ b) is p q = cc
rises key Null b is p q = cc
rises key (Truth a) b is p q = cc
rises key (Text a) b is p q = cc
rises key (Row' _ a) b is p q = cc

falls : (key : RKey) (a b : Value) → key.is_descending ≡ true → is_some (number a) ≡ true → is_some (number b) ≡ true → key_order key a b ≡ int_cmp (or_zero b) (or_zero a)
falls key (Int x) (Int y) is p q = rw is refl
falls key (Int x) (Big y) is p q = rw is refl
falls key (Big x) (Int y) is p q = rw is refl
falls key (Big x) (Big y) is p q = rw is refl
falls key (Int x) Null is p q = cc
falls key (Int x) (Truth b) is p q = cc
falls key (Int x) (Text b) is p q = cc
falls key (Int x) (Row' _ b) is p q = cc
falls key (Big x) Null is p q = cc
falls key (Big x) (Truth b) is p q = cc
falls key (Big x) (Text b) is p q = cc
falls key (Big x) (Row' _ b) is p q = cc
falls key Null b is p q = cc
falls key (Truth a) b is p q = cc
falls key (Text a) b is p q = cc
falls key (Row' _ a) b is p q = cc

pub sorted_rising : (key : RKey) (rows : List (List Value)) → key.is_descending ≡ false → list_all (has_number key.item) rows ≡ true → sorted (rising key.item) rows ≡ sorted (order_by (key ∷ [])) rows
sorted_rising key rows is all =
    sym (sorted_alike (has_number key.item) (order_by (key ∷ [])) (rising key.item)
    (λ a b p q. then_same (key_order key (value_at a key.item) (value_at b key.item)) ∙ rises key (value_at a key.item) (value_at b key.item) is p q) rows all)

pub sorted_falling : (key : RKey) (rows : List (List Value)) → key.is_descending ≡ true → list_all (has_number key.item) rows ≡ true → sorted (falling key.item) rows ≡ sorted (order_by (key ∷ [])) rows
sorted_falling key rows is all =
    sym (sorted_alike (has_number key.item) (order_by (key ∷ [])) (falling key.item)
    (λ a b p q. then_same (key_order key (value_at a key.item) (value_at b key.item)) ∙ falls key (value_at a key.item) (value_at b key.item) is p q) rows all)
