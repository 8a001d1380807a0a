-- The text of a row, from the list of its fields.
use Rattle.std.proofs.Common.{◌≡◌, ℕ, List, ◌++◌, refl, ap, ◌∙◌, codes}
use mathlib.Core.Former.{Count}
use Rattle.std.specs.List.{flat_map, join_by}
use Rattle.pl_base.specs.declared.value.Field.{Field}
use Rattle.pl_base.specs.declared.value.Value.{Value, Row', Row_of-Field, end_of-Field, more_of-Field, items-the_row-Field, items_hidden-the_row-Field-0}
use Rattle.pl_base.specs.declared.value.Value.TheVariants.{Row}
use Rattle.pl_print.specs.TextForm.{output, joined, after_commas, field_text, field_form, row_text}

-- a field behind a comma
abbrev comma_text : Field → List ℕ
comma_text field = codes "," ++ field_text field

-- the fields with commas between
abbrev fields_text : List Field → List ℕ
fields_text fields = join_by field_text (codes ",") fields

after_commas_is : (n : _) (row : Row_of-Field n) → after_commas row ≡ flat_map comma_text (items-the_row-Field n row)
after_commas_is n end_of-Field = refl
after_commas_is n (more_of-Field name ty v rest) = ap (λ (l : List ℕ). codes "," ++ (field_form v (output v) ++ l)) (after_commas_is _ rest)

joined_is : (n : _) (row : Row_of-Field n) → joined row ≡ fields_text (items-the_row-Field n row)
joined_is n end_of-Field = refl
joined_is n (more_of-Field name ty v rest) = ap (λ (l : List ℕ). field_form v (output v) ++ l) (after_commas_is _ rest)

abbrev row_of : Value → (n : Count) × Row_of-Field n
row_of (Row' _ row) = (_, row)
row_of _ = (_, end_of-Field)

pub output-Row : (fields : List Field) → output (Row fields) ≡ row_text fields
output-Row fields =
    let row = row_of (Row fields) in
    ap (λ (l : List ℕ). codes "(" ++ (l ++ codes ")")) (joined_is row.0 row.1 ∙ ap fields_text (items_hidden-the_row-Field-0 fields))
