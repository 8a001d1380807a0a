-- Rows by the lists of their fields.
use Rattle.std.proofs.Common.{◌≡◌, ℕ, ℤ, pos, List, [], ◌∷◌, refl, ap, ◌∙◌, fold}
use mathlib.Core.Former.{Count}
use Rattle.std.specs.Cmp.Lexicographic.{slice_cmp}
use Rattle.std.specs.Ordering.{ordering_then}
use Rattle.pl_base.specs.declared.value.Field.{Field, out-Field}
use Rattle.pl_base.specs.declared.value.Value.{Value, Row', Row_of-Field, end_of-Field, more_of-Field, items-the_row-Field, items_hidden-the_row-Field-0}
use Rattle.pl_base.specs.declared.value.Value.TheVariants.{Row}
use Rattle.pl_keys.specs.Order.{value_order, row_order, field_order}
use Rattle.pl_keys.specs.Marks.{mark_of_value, mixed, with_fields, with_field}
use Rattle.pl_keys.specs.Lent.{numbers, row_numbers}

abbrev row_of : Value → (n : Count) × Row_of-Field n
row_of (Row' _ row) = (_, row)
row_of _ = (_, end_of-Field)

orders : (m n : _) (a : Row_of-Field m) (b : Row_of-Field n) → row_order a b ≡ slice_cmp field_order (items-the_row-Field m a) (items-the_row-Field n b)
orders m n end_of-Field end_of-Field = refl
orders m n end_of-Field (more_of-Field _ _ w others) = refl
orders m n (more_of-Field _ _ v rest) end_of-Field = refl
orders m n (more_of-Field _ _ v rest) (more_of-Field _ _ w others) = ap (ordering_then (value_order v w)) (orders _ _ rest others)

pub order_of_rows : (a b : List Field) → value_order (Row a) (Row b) ≡ slice_cmp field_order a b
order_of_rows a b =
    let f = row_of (Row a) in
    let g = row_of (Row b) in
    orders f.0 g.0 f.1 g.1
    ∙ (ap (λ (l : List Field). slice_cmp field_order l (items-the_row-Field g.0 g.1)) (items_hidden-the_row-Field-0 a)
    ∙ ap (slice_cmp field_order a) (items_hidden-the_row-Field-0 b))

marks : (n : _) (row : Row_of-Field n) (m : ℕ) → with_fields row m ≡ fold with_field m (items-the_row-Field n row)
marks n end_of-Field m = refl
marks n (more_of-Field _ _ v rest) m = marks _ rest (mixed m (mark_of_value v))

pub mark_of_rows : (fields : List Field) → mark_of_value (Row fields) ≡ fold with_field 6 fields
mark_of_rows fields =
    let row = row_of (Row fields) in
    marks row.0 row.1 6 ∙ ap (fold with_field 6) (items_hidden-the_row-Field-0 fields)

-- the numbers of the fields before others
abbrev pub list_numbers : List Field → List ℤ → List ℤ
list_numbers [] more = pos 0 ∷ more
list_numbers (field ∷ fields) more = pos 1 ∷ numbers (out-Field field).value (list_numbers fields more)

listed : (n : _) (row : Row_of-Field n) (more : List ℤ) → row_numbers row more ≡ list_numbers (items-the_row-Field n row) more
listed n end_of-Field more = refl
listed n (more_of-Field _ _ v rest) more = ap (λ (l : List ℤ). pos 1 ∷ numbers v l) (listed _ rest more)

pub numbers_of_rows : (fields : List Field) (more : List ℤ) → numbers (Row fields) more ≡ pos 3 ∷ list_numbers fields more
numbers_of_rows fields more =
    let row = row_of (Row fields) in
    ap (λ (l : List ℤ). pos 3 ∷ l) (listed row.0 row.1 more ∙ ap (λ (l : List Field). list_numbers l more) (items_hidden-the_row-Field-0 fields))
