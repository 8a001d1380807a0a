-- Values that tie are equal but for widths, names and types of fields, and such values tie.
use Rattle.std.proofs.Common.{◌≡◌, refl, sym, ap, ◌∙◌, ℕ, ℤ, pos, Bool, true, false, ◌&&◌, List, [], ◌∷◌, map, fold, IsTrue, ◌↔◌}
use Rattle.std.proofs.lemmas.Map.Lookups.{exact_bytes, exact_signed}
use Rattle.std.proofs.lemmas.Cmp.{tied_itself}
use Rattle.std.specs.Ordering.{is_eq, ordering_then}
use Rattle.std.specs.declared.cmp.Ordering.{Ordering}
use Rattle.std.specs.declared.cmp.Ordering.TheVariants.{Less, Equal, Greater}
use Rattle.pl_base.specs.declared.value.Field.{Field}
use Rattle.pl_base.specs.declared.value.Value.{Value, Row', Row_of-Field, end_of-Field, more_of-Field}
use Rattle.pl_base.specs.declared.value.Value.TheVariants.{Null, Int, Big, Text, Row, Bool as Truth}
use Rattle.pl_keys.specs.Lent.{as_numbers, cmp, numbers, row_numbers, numbers_total}
use Rattle.pl_keys.specs.Marks.{mark_of_value, mixed, with_fields, with_field}
use Rattle.pl_keys.specs.Order.{row_order, value_order}
use Rattle.pl_keys.specs.Same.{field_of, plain, plain_fields, same}
use Rattle.pl_keys.proofs.Rows.{list_numbers, mark_of_rows, numbers_of_rows}

-- the first of two that decide ties, and so does the second
both : (p q : Ordering) → ordering_then p q ≡ Equal → (p ≡ Equal) × (q ≡ Equal)
both Less q is = cc
both Equal q is = (refl, is)
both Greater q is = cc

mutual
  pub values_alike : (a b : Value) → value_order a b ≡ Equal → plain a ≡ plain b
  values_alike Null Null is = refl
  values_alike Null (Truth true) is = cc
  values_alike Null (Truth false) is = cc
  values_alike Null (Int y) is = cc
  values_alike Null (Big y) is = cc
  values_alike Null (Text y) is = cc
  values_alike Null (Row' _ g) is = cc
  values_alike (Truth true) Null is = cc
  values_alike (Truth true) (Truth true) is = refl
  values_alike (Truth true) (Truth false) is = cc
  values_alike (Truth true) (Int y) is = cc
  values_alike (Truth true) (Big y) is = cc
  values_alike (Truth true) (Text y) is = cc
  values_alike (Truth true) (Row' _ g) is = cc
  values_alike (Truth false) Null is = cc
  values_alike (Truth false) (Truth true) is = cc
  values_alike (Truth false) (Truth false) is = refl
  values_alike (Truth false) (Int y) is = cc
  values_alike (Truth false) (Big y) is = cc
  values_alike (Truth false) (Text y) is = cc
  values_alike (Truth false) (Row' _ g) is = cc
  values_alike (Int x) Null is = cc
  values_alike (Int x) (Truth true) is = cc
  values_alike (Int x) (Truth false) is = cc
  values_alike (Int x) (Int y) is = ap Big (exact_signed x y is)
  values_alike (Int x) (Big y) is = ap Big (exact_signed x y is)
  values_alike (Int x) (Text y) is = cc
  values_alike (Int x) (Row' _ g) is = cc
  values_alike (Big x) Null is = cc
  values_alike (Big x) (Truth true) is = cc
  values_alike (Big x) (Truth false) is = cc
  values_alike (Big x) (Int y) is = ap Big (exact_signed x y is)
  values_alike (Big x) (Big y) is = ap Big (exact_signed x y is)
  values_alike (Big x) (Text y) is = cc
  values_alike (Big x) (Row' _ g) is = cc
  values_alike (Text x) Null is = cc
  values_alike (Text x) (Truth true) is = cc
  values_alike (Text x) (Truth false) is = cc
  values_alike (Text x) (Int y) is = cc
  values_alike (Text x) (Big y) is = cc
  values_alike (Text x) (Text y) is = ap Text (exact_bytes x y is)
  values_alike (Text x) (Row' _ g) is = cc
  values_alike (Row' _ f) Null is = cc
  values_alike (Row' _ f) (Truth true) is = cc
  values_alike (Row' _ f) (Truth false) is = cc
  values_alike (Row' _ f) (Int y) is = cc
  values_alike (Row' _ f) (Big y) is = cc
  values_alike (Row' _ f) (Text y) is = cc
  values_alike (Row' _ f) (Row' _ g) is = ap Row (rows_alike f g is)

  rows_alike : {i : _} (f : Row_of-Field i) {j : _} (g : Row_of-Field j) → row_order f g ≡ Equal → plain_fields f ≡ plain_fields g
  rows_alike end_of-Field end_of-Field is = refl
  rows_alike end_of-Field (more_of-Field _ _ w others) is = cc
  rows_alike (more_of-Field _ _ v rest) end_of-Field is = cc
  rows_alike (more_of-Field _ _ v rest) (more_of-Field _ _ w others) is =
      let h = both (value_order v w) (row_order rest others) is in
      ap (λ (x : Value). field_of x ∷ plain_fields rest) (values_alike v w h.0) ∙ ap (λ (l : List Field). field_of (plain w) ∷ l) (rows_alike rest others h.1)

mutual
  mark_of_plain : (a : Value) → mark_of_value (plain a) ≡ mark_of_value a
  mark_of_plain Null = refl
  mark_of_plain (Truth true) = refl
  mark_of_plain (Truth false) = refl
  mark_of_plain (Int x) = refl
  mark_of_plain (Big x) = refl
  mark_of_plain (Text x) = refl
  mark_of_plain (Row' _ f) = mark_of_rows (plain_fields f) ∙ marks_of_plain f 6

  marks_of_plain : {i : _} (f : Row_of-Field i) (m : ℕ) → fold with_field m (plain_fields f) ≡ with_fields f m
  marks_of_plain end_of-Field m = refl
  marks_of_plain (more_of-Field _ _ v rest) m =
      marks_of_plain rest (mixed m (mark_of_value (plain v))) ∙ ap (λ (n : ℕ). with_fields rest (mixed m n)) (mark_of_plain v)

pub values_marked : (a b : Value) → value_order a b ≡ Equal → mark_of_value a ≡ mark_of_value b
values_marked a b is = sym (mark_of_plain a) ∙ (ap mark_of_value (values_alike a b is) ∙ mark_of_plain b)

mutual
  numbers_of_plain : (a : Value) (m : List ℤ) → numbers (plain a) m ≡ numbers a m
  numbers_of_plain Null m = refl
  numbers_of_plain (Truth true) m = refl
  numbers_of_plain (Truth false) m = refl
  numbers_of_plain (Int x) m = refl
  numbers_of_plain (Big x) m = refl
  numbers_of_plain (Text x) m = refl
  numbers_of_plain (Row' _ f) m = numbers_of_rows (plain_fields f) m ∙ ap (λ (l : List ℤ). pos 3 ∷ l) (lists_of_plain f m)

  lists_of_plain : {i : _} (f : Row_of-Field i) (m : List ℤ) → list_numbers (plain_fields f) m ≡ row_numbers f m
  lists_of_plain end_of-Field m = refl
  lists_of_plain (more_of-Field _ _ v rest) m =
      ap (λ (l : List ℤ). pos 1 ∷ l) (numbers_of_plain v (list_numbers (plain_fields rest) m)
      ∙ ap (numbers v) (lists_of_plain rest m))

values_tie : (a b : Value) → plain a ≡ plain b → value_order a b ≡ Equal
values_tie a b is =
    let one : numbers a [] ≡ numbers b [] = sym (numbers_of_plain a []) ∙ (ap (λ (v : Value). numbers v []) is ∙ numbers_of_plain b []) in
    sym (as_numbers a b) ∙ (ap (λ (l : List ℤ). cmp l (numbers b [])) one ∙ tied_itself numbers_total (numbers b []))

pub tie : (o : Ordering) → is_eq o ≡ true → o ≡ Equal
tie Less is = cc
tie Equal is = refl
tie Greater is = cc

pub each : (a b : Bool) → a && b ≡ true → (a ≡ true) × (b ≡ true)
each true true is = (refl, refl)
each true false is = cc
each false b is = cc

pub are_equal : (a b : List Value) → same a b ≡ true → map plain a ≡ map plain b
are_equal [] [] is = refl
are_equal [] (y ∷ b) is = cc
are_equal (x ∷ a) [] is = cc
are_equal (x ∷ a) (y ∷ b) is =
    let h = each (is_eq (value_order x y)) (same a b) is in
    ap (λ (v : Value). v ∷ map plain a) (values_alike x y (tie (value_order x y) h.0)) ∙ ap (λ (l : List Value). plain y ∷ l) (are_equal a b h.1)

pub are_same : (a b : List Value) → map plain a ≡ map plain b → same a b ≡ true
are_same [] [] is = refl
are_same [] (y ∷ b) is = cc
are_same (x ∷ a) [] is = cc
are_same (x ∷ a) (y ∷ b) is =
    let heads : plain x ≡ plain y = cc is in
    let tails : map plain a ≡ map plain b = cc is in
    rw (values_tie x y heads, are_same a b tails) refl

-- rows are the same just where they are equal as plain ones
pub equal_rows : (r : Bool) (a b : List Value) → r ≡ same a b → IsTrue r ↔ (map plain a ≡ map plain b)
equal_rows r a b is = (λ (t : r ≡ true). are_equal a b (sym is ∙ t), λ (e : map plain a ≡ map plain b). is ∙ are_same a b e)
