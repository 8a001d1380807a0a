-- The texts of values: PostgreSQL manual, "Boolean Type", "Composite Types".
use Rattle.std.specs.Prelude.{ℕ, Bool, ◌==◌, ◌||◌, if◌then◌else◌, List, [], ◌∷◌, ◌++◌, codes}
use Rattle.std.specs.Prelude.{length}
use Rattle.std.specs.Fmt.{signed_decimal}
use Rattle.std.specs.List.{list_any, flat_map, join_by}
use Rattle.pl_base.specs.declared.value.Field.{Field, out-Field}
use Rattle.pl_base.specs.declared.value.Value.{Value, Row', Row_of-Field, end_of-Field}
use Rattle.pl_base.specs.declared.value.Value.{more_of-Field}
use Rattle.pl_base.specs.declared.value.Value.TheVariants.{Null, Int, Big, Text, Bool as Truth}

-- space, tab, newline, vertical tab, form feed and carriage return
abbrev pub blanks : List ℕ
blanks = 32 ∷ 9 ∷ 10 ∷ 11 ∷ 12 ∷ 13 ∷ []

-- the byte is one of the set
abbrev pub is_one_of : List ℕ → ℕ → Bool
is_one_of set b = list_any (λ x. x == b) set

-- a double quote or a backslash
abbrev pub is_quote : ℕ → Bool
is_quote b = is_one_of (codes "\"\\") b

-- bytes for which a field is put in double quotes
abbrev pub is_special : ℕ → Bool
is_special b = is_quote b || (is_one_of (codes "(),") b || is_one_of blanks b)

-- quotes and backslashes stand twice
abbrev pub doubled : ℕ → List ℕ
doubled b = if is_quote b then b ∷ b ∷ [] else b ∷ []

-- a text in double quotes
abbrev pub in_quotes : List ℕ → List ℕ
in_quotes text = codes "\"" ++ (flat_map doubled text ++ codes "\"")

-- an empty text, or one with a special byte
abbrev pub needs_quotes : List ℕ → Bool
needs_quotes text = (length text == 0) || list_any is_special text

-- a field's text in a row: nothing for null, and quotes where they are needed
abbrev pub field_form : Value → List ℕ → List ℕ
field_form Null text = []
field_form v text = if needs_quotes text then in_quotes text else text

-- what is printed of a value, and what stands in a row; null prints nothing
abbrev mutual
  pub output : Value → List ℕ
  output Null = []
  output (Int z) = signed_decimal z
  output (Big z) = signed_decimal z
  output (Text t) = t
  output (Truth b) = if b then codes "t" else codes "f"
  output (Row' _ fields) = codes "(" ++ (joined fields ++ codes ")")

  -- the fields with commas between
  pub joined : {m : _} → Row_of-Field m → List ℕ
  joined end_of-Field = []
  joined (more_of-Field name ty v rest) = field_form v (output v) ++ after_commas rest

  -- further fields, each behind a comma
  pub after_commas : {m : _} → Row_of-Field m → List ℕ
  after_commas end_of-Field = []
  after_commas (more_of-Field name ty v rest) =
      codes "," ++ (field_form v (output v) ++ after_commas rest)

-- the text of one field
abbrev pub field_text : Field → List ℕ
field_text field = field_form (out-Field field).value (output (out-Field field).value)

-- the text of a row, from the list of its fields
abbrev pub row_text : List Field → List ℕ
row_text fields = codes "(" ++ (join_by field_text (codes ",") fields ++ codes ")")
