-- The objects that entries hold. It says how the code stands to the objects.
use Rattle.std.specs.Prelude.{ℕ, zero, suc, ◌-◌, ◌&&◌, Bool, true, if◌then◌else◌}
use Rattle.std.specs.Prelude.{List, [], ◌∷◌, length, take}
use Rattle.pl_catalog.specs.declared.object.Object.{Object}
use Rattle.pl_catalog.specs.declared.object.Which.{Which}
use Rattle.pl_catalog.specs.declared.entries.Entry.{Entry}
use Rattle.pl_catalog.specs.declared.entries.Step.{Step}
use Rattle.pl_catalog.specs.declared.entries.Step.TheVariants.{Added, Dropped, Replaced}
use Rattle.pl_catalog.specs.Objects.{is_called}

abbrev pub kept : Bool → Object → List Object → List Object
kept is_there o os = if is_there then o ∷ os else os

-- the objects that are there
abbrev pub there : List Entry → List Object
there [] = []
there (e ∷ es) = kept e.is_there e.object (there es)

-- an object is there that is found by this
abbrev pub is_at : Which → Entry → Bool
is_at w e = e.is_there && is_called w e.object

-- the entry at this place is changed so, and the others stay
abbrev pub with_entry : List Entry → ℕ → (Entry → Entry) → List Entry
with_entry [] at change = []
with_entry (e ∷ es) zero change = change e ∷ es
with_entry (e ∷ es) (suc at) change = e ∷ with_entry es at change

abbrev pub gone : Bool → Entry → Entry
gone is_there e = record { object = e.object; is_there = is_there }

abbrev pub holding : Object → Entry → Entry
holding o e = record { object = o; is_there = e.is_there }

abbrev pub undo_step : Step → List Entry → List Entry
undo_step Added es = take (length es - 1) es
undo_step (Dropped at) es = with_entry es at (gone true)
undo_step (Replaced at old) es = with_entry es at (holding old)
