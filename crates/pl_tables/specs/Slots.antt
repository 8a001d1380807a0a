-- The rows that slots hold.
use Rattle.std.specs.Prelude.{◌≤◌, ◌+◌, ℕ, zero, suc, List, [], ◌∷◌, Option, None, Some}
use Rattle.std.specs.Prelude.{option_map, option_and_then, slice_get}
use Rattle.pl_base.specs.declared.value.Value.{Value}
use Rattle.pl_tables.specs.declared.slots.Slot.{Slot}

abbrev pub before : ℕ → Option (List Value) → List (ℕ × List Value) → List (ℕ × List Value)
before id None rows = rows
before id (Some row) rows = (id, row) ∷ rows

-- the rows that are there
abbrev pub live : List Slot → List (ℕ × List Value)
live [] = []
live (s ∷ ss) = before s.id s.row (live ss)

abbrev pub id_at : List Slot → ℕ → Option ℕ
id_at slots at = option_map (λ (s : Slot). s.id) (slice_get slots at)

-- the row of the slot at this place
abbrev pub row_of : List Slot → ℕ → Option (List Value)
row_of slots at = option_and_then (λ (s : Slot). s.row) (slice_get slots at)

-- the slot at this place with this row, or without one
abbrev pub with_row : List Slot → ℕ → Option (List Value) → List Slot
with_row [] at row = []
with_row (s ∷ ss) zero row = record { id = s.id; row = row } ∷ ss
with_row (s ∷ ss) (suc at) row = s ∷ with_row ss at row

-- the ids rise, from the first number on, and stay below the second
abbrev pub Rising : ℕ → List Slot → ℕ → Type 0
Rising least [] top = least ≤ top
Rising least (s ∷ ss) top = (least ≤ s.id) × Rising (s.id + 1) ss top

abbrev pub IsRising : List Slot → Type 0
IsRising slots = (top : ℕ) × Rising 0 slots top
