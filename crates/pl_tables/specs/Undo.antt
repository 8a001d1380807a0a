-- What undoing brings back.
use Rattle.std.specs.Prelude.{◌≡◌, ◌<◌, ◌≤◌, ℕ, ◌+◌, ◌-◌, ◌++◌, List, [], ◌∷◌, Option, None, Some}
use Rattle.std.specs.Prelude.{insert, length, map, take}
use Rattle.pl_base.specs.declared.value.Value.{Value}
use Rattle.pl_history.specs.History.{History, seen_as}
use Rattle.pl_unique.specs.declared.key.Part.{Part}
use Rattle.pl_unique.specs.declared.row_keys.Key.{Key}
use Rattle.pl_unique.specs.RowKeys.{changed_key, key_given}
use Rattle.pl_tables.specs.declared.slots.Slot.{Slot}
use Rattle.pl_tables.specs.declared.heap.Change.{Change}
use Rattle.pl_tables.specs.declared.heap.Change.TheVariants.{Added, Changed}
use Rattle.pl_tables.specs.Rows.{Content}
use Rattle.pl_tables.specs.Slots.{id_at, live, with_row, Rising}

-- the slots, and the id that the next new row gets
pub record Kept : Type 0 where
  pub slots : List Slot
  pub next : ℕ

abbrev pub kept : List Slot → ℕ → Kept
kept slots next = record { slots = slots; next = next }

-- with these keys
abbrev pub content : List (List ℕ) → Kept → Content
content keys k = record { next = k.next; rows = live k.slots; keys = keys }

abbrev pub undo_one : Change → Kept → Kept
undo_one Added k = record { slots = take (length k.slots - 1) k.slots; next = k.next - 1 }
undo_one (Changed at row) k = record { slots = with_row k.slots at (Some row); next = k.next }

-- a row more
abbrev pub with_slot : List Value → Kept → Kept
with_slot row k = kept (k.slots ++ (record { id = k.next; row = Some row }) ∷ []) (k.next + 1)

-- another row at this place, or none
abbrev pub with_row_at : ℕ → Option (List Value) → Kept → Kept
with_row_at at row k = kept (with_row k.slots at row) k.next

-- a slot without a row, of this id and at this place
abbrev pub with_gap : ℕ → ℕ → Kept → Kept
with_gap at id k = kept (insert k.slots at (record { id = id; row = None })) k.next

-- the row under this id: behind the others, or at this place
abbrev pub laid : Option ℕ → ℕ → List Value → Kept → Kept
laid None id row k = kept (k.slots ++ (record { id = id; row = Some row }) ∷ []) (id + 1)
laid (Some at) id row k = with_row_at at (Some row) k

-- it may stand there
abbrev pub MayLay : Option ℕ → ℕ → Kept → Type 0
MayLay None id k = k.next ≤ id
MayLay (Some at) id k = id_at k.slots at ≡ Some id

-- a slot of this id would stand at this place
pub record IsGap (id at : ℕ) (slots : List Slot) : Type 0 where
  pub within : at ≤ length slots
  pub below : (p n : ℕ) → p < at → id_at slots p ≡ Some n → n < id
  pub above : (p n : ℕ) → at ≤ p → id_at slots p ≡ Some n → id < n

-- behind the others, each slot has its key
abbrev pub pushed_key : List Slot → Key → Key
pushed_key [] k = k
pushed_key (s ∷ ss) k = pushed_key ss (changed_key None s.row k)

-- with nothing that can be undone
abbrev pub at_rest : Kept → History Kept
at_rest k = record { current = k; past = [] }

-- the ids rise, and the next one is greater
abbrev pub IsInOrder : Kept → Type 0
IsInOrder k = Rising 0 k.slots k.next

-- what these columns hold in each slot
abbrev pub slot_keys : List ℕ → Kept → List (Option (List Part))
slot_keys columns k = map (λ (s : Slot). key_given columns s.row) k.slots

-- the key is that of the slots, at each moment
abbrev pub InStep : History Kept → Key → Type 0
InStep h k = k.at ≡ seen_as (slot_keys k.columns.items) h
