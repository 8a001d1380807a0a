-- Tables with their names.
use Rattle.std.specs.Prelude.{ℕ, Bool, nat_eq, if◌then◌else◌, List, [], ◌∷◌, Option, None, Some}
use Rattle.std.specs.Prelude.{option_map}
use Rattle.std.specs.Cmp.Lexicographic.{pointwise}
use Rattle.pl_base.specs.declared.value.Value.{Value}
use Rattle.pl_tables.specs.Rows.{Content, has_room, is_full, row_at, Holds}

pub record Named : Type 0 where
  pub name : List ℕ
  pub content : Content

abbrev pub named : List ℕ → Content → Named
named name content = record { name = name; content = content }

-- what the table of this name holds
abbrev pub content_named : List ℕ → List Named → Option Content
content_named name [] = None
content_named name (t ∷ ts) =
    if pointwise nat_eq t.name name then Some t.content else content_named name ts

-- the id that the next new row of the table of this name gets
abbrev pub next_named : List ℕ → List Named → Option ℕ
next_named name ts = option_map (λ (c : Content). c.next) (content_named name ts)

-- the row of this id has a key of this row, where there is a table
abbrev pub HoldsIn : List Value → ℕ → Option Content → Type 0
HoldsIn row id None = ⊥
HoldsIn row id (Some c) = Holds row c id

-- whether the table of this name is full
abbrev pub is_full_named : List ℕ → List Named → Option Bool
is_full_named name ts = option_map is_full (content_named name ts)

-- whether the table of this name has room for a row of this id
abbrev pub has_room_named : List ℕ → ℕ → List Named → Option Bool
has_room_named name id ts = option_map (has_room id) (content_named name ts)

abbrev pub rows_of : Option Content → List (ℕ × List Value)
rows_of None = []
rows_of (Some c) = c.rows

-- the rows of the table of this name; none where there is no such table
abbrev pub rows_named : List ℕ → List Named → List (ℕ × List Value)
rows_named name ts = rows_of (content_named name ts)

-- the row of this id in the table of this name
abbrev pub row_named : List ℕ → ℕ → List Named → Option (List Value)
row_named name id ts = row_at id (rows_named name ts)

-- the table of this name is changed so, and the others stay
abbrev pub on_table : List ℕ → (Content → Content) → List Named → List Named
on_table name change [] = []
on_table name change (t ∷ ts) =
    if pointwise nat_eq t.name name
    then named t.name (change t.content) ∷ ts
    else t ∷ on_table name change ts

-- the others, in their order
abbrev pub without_table : List ℕ → List Named → List Named
without_table name [] = []
without_table name (t ∷ ts) =
    if pointwise nat_eq t.name name then ts else t ∷ without_table name ts
