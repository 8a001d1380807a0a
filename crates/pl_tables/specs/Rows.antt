-- The rows of a table. A row has an id, which no later row gets, unless the row is undone.
use Rattle.std.specs.Prelude.{◌≡◌, ℕ, Bool, ◌+◌, ◌^◌, ◌||◌, ◌++◌, length, max, nat_eq, nat_le, nat_lt}
use Rattle.std.specs.Prelude.{List, [], ◌∷◌, Option, Some, is_some, option_and_then, slice_get}
use Rattle.std.specs.BTreeMap.{insert_entry}
use Rattle.std.specs.Map.{lookup, set_value, remove_entry}
use Rattle.std.specs.Ordering.{nat_cmp}
use Rattle.pl_base.specs.declared.value.Value.{Value}
use Rattle.pl_unique.specs.declared.key.Part.{Part}
use Rattle.pl_unique.specs.Key.{key_of}

-- the id that the next new row gets, the rows by their ids, and the columns of each key
pub record Content : Type 0 where
  pub next : ℕ
  pub rows : List (ℕ × List Value)
  pub keys : List (List ℕ)

-- a new table
abbrev pub no_rows : List (List ℕ) → Content
no_rows keys = record { next = 1; rows = []; keys = keys }

-- there are 1,000,000 rows, or no id is left
abbrev pub is_full : Content → Bool
is_full c = nat_le 1000000 (length c.rows) || nat_le (2 ^ 63) c.next

-- the row of this id
abbrev pub row_at : ℕ → List (ℕ × List Value) → Option (List Value)
row_at id rows = lookup (nat_eq id) rows

-- what these columns hold in the row of this id
abbrev pub key_at : List ℕ → ℕ → List (ℕ × List Value) → Option (List Part)
key_at columns id rows = option_and_then (key_of columns) (row_at id rows)

-- the row of this id has a key of this row
pub record Holds (row : List Value) (c : Content) (id : ℕ) : Type 0 where
  pub number : ℕ
  pub columns : List ℕ
  pub parts : List Part
  pub is : slice_get c.keys number ≡ Some columns
  pub asked : key_of columns row ≡ Some parts
  pub held : key_at columns id c.rows ≡ Some parts

abbrev pub inserted : List Value → Content → Content
inserted row c = record { next = c.next + 1; rows = c.rows ++ (c.next, row) ∷ []; keys = c.keys }

abbrev pub replaced : ℕ → List Value → Content → Content
replaced id row c = record { next = c.next; rows = set_value (nat_eq id) c.rows row; keys = c.keys }

abbrev pub removed : ℕ → Content → Content
removed id c = record { next = c.next; rows = remove_entry (nat_eq id) c.rows; keys = c.keys }

-- the row stands under this id, in the place of the one that did or among the others by its id
abbrev pub put_at : ℕ → List Value → Content → Content
put_at id row c = record {
  next = max c.next (id + 1);
  rows = insert_entry nat_cmp c.rows id row;
  keys = c.keys;
}

-- a row of this id is there, or one more can be
abbrev pub has_room : ℕ → Content → Bool
has_room id c = is_some (row_at id c.rows) || nat_lt (length c.rows) 1000000

-- the next new row gets this id
abbrev pub raised : ℕ → Content → Content
raised next c = record { next = next; rows = c.rows; keys = c.keys }
