-- What a crash leaves by a pick, where the host chooses the bytes that aren't settled.
use Rattle.std.specs.Prelude.{ℕ, List, [], ◌∷◌, length, replicate, nat_le, if◌then◌else◌}
use Rattle.pl_base.specs.Image.{Image}
use Rattle.pl_base.specs.declared.area.Area.{Area}
use Rattle.pl_disk.specs.Replay.{image_of, put_in}
use Rattle.pl_disk.specs.declared.memory.image_after.Pick.{Pick}
use Rattle.pl_disk.specs.declared.memory.image_after.Pick.TheVariants.{Old, New, Fill}
use Rattle.pl_disk.specs.declared.memory.image_after.Picked.{Picked}
use Rattle.pl_disk.specs.declared.memory.note.Change.{Change}
use Rattle.pl_disk.specs.declared.memory.note.Change.TheVariants.{Wrote, Synced, Said}
use Rattle.pl_disk.specs.declared.memory.note.Note.{Note}

-- The notes of the calls up to this one.
abbrev pub notes_until : ℕ → List Note → List Note
notes_until call [] = []
notes_until call (note ∷ notes) = if nat_le note.call call then note ∷ notes_until call notes else []

-- What a write that isn't settled leaves: nothing, its bytes, or one byte throughout.
abbrev pub chosen : Pick → Area → ℕ → List ℕ → Image → Image
chosen Old area at bytes left = left
chosen New area at bytes left = put_in area at bytes left
chosen (Fill byte) area at bytes left = put_in area at (replicate (length bytes) byte) left

-- The files as reads give them, and as a crash leaves them by a pick.
pub record PickedImages : Type 0 where
  pub seen : Image
  pub left : Image

abbrev pub picked_images : Picked → PickedImages
picked_images p = record { seen = image_of p.seen; left = image_of p.left }

-- After one more change. A sync settles what reads give.
abbrev pub picked : Pick → PickedImages → Change → PickedImages
picked pick p (Wrote area at bytes) = record { seen = put_in area at bytes.items p.seen; left = chosen pick area at bytes.items p.left }
picked pick p Synced = record { seen = p.seen; left = p.seen }
picked pick p (Said text) = p

abbrev pub picked_all : Pick → PickedImages → List Note → PickedImages
picked_all pick p [] = p
picked_all pick p (note ∷ notes) = picked_all pick (picked pick p note.change) notes

-- What a crash leaves of the first files after these notes.
abbrev pub left_by : Pick → Image → List Note → Image
left_by pick first notes = (picked_all pick (record { seen = first; left = first }) notes).left
