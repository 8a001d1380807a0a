-- What the noted calls of a host in memory did, and the moments that they stand for.
use Rattle.std.specs.Prelude.{◌≡◌, ◌⊎◌, ℕ, zero, suc, ◌+◌, List, [], ◌∷◌, ◌++◌, length, take, drop}
use Rattle.pl_base.specs.Image.{Image, file}
use Rattle.pl_base.specs.declared.area.Area.{Area}
use Rattle.pl_base.specs.declared.area.Area.TheVariants.{A, B}
use Rattle.pl_disk.specs.Attached.{IsGiven}
use Rattle.pl_disk.specs.declared.memory.files.Files.{Files}
use Rattle.pl_disk.specs.declared.memory.note.Change.{Change}
use Rattle.pl_disk.specs.declared.memory.note.Change.TheVariants.{Wrote, Synced, Said}
use Rattle.pl_disk.specs.declared.memory.note.Note.{Note}
use Rattle.pl_disk.specs.Disk.{IsPrefix, View}
use Rattle.pl_disk.specs.Left.{IsLeft}

-- The two files that are kept in memory.
abbrev pub image_of : Files → Image
image_of files = record { a = files.a.items; b = files.b.items }

-- The bytes with others over a part of them, or past their end.
abbrev pub put : List ℕ → ℕ → List ℕ → List ℕ
put old at bytes = take at old ++ bytes ++ drop (at + length bytes) old

-- The files with one of them replaced.
abbrev pub with_file : Area → List ℕ → Image → Image
with_file A bytes image = record image { a = bytes }
with_file B bytes image = record image { b = bytes }

-- The files with these bytes put into one of them.
abbrev pub put_in : Area → ℕ → List ℕ → Image → Image
put_in area at bytes image = with_file area (put (file area image) at bytes) image

pub record State : Type 0 where
  -- the files as reads give them, and as they were at the last sync
  pub seen : Image
  pub synced : Image
  -- the ranges written since, the newest first
  pub written_a : List (ℕ × ℕ)
  pub written_b : List (ℕ × ℕ)
  -- all that was printed
  pub printed : List ℕ

-- Before the first call.
abbrev pub start : Image → State
start first = record { seen = first; synced = first; written_a = []; written_b = []; printed = [] }

abbrev pub written : Area → ℕ → List ℕ → State → State
written A at bytes s = record s { seen = put_in A at bytes s.seen; written_a = (at, length bytes) ∷ s.written_a }
written B at bytes s = record s { seen = put_in B at bytes s.seen; written_b = (at, length bytes) ∷ s.written_b }

-- What a change does.
abbrev pub changed : State → Change → State
changed s (Wrote area at bytes) = written area at bytes.items s
changed s Synced = record s { synced = s.seen; written_a = []; written_b = [] }
changed s (Said text) = record s { printed = s.printed ++ text.items }

-- The state after these notes.
abbrev pub replay : State → List Note → State
replay s [] = s
replay s (note ∷ notes) = replay (changed s note.change) notes

-- The files that a crash may leave.
abbrev pub IsImage : State → Image → Type 0
IsImage s c = IsLeft s.synced.a s.written_a c.a × IsLeft s.synced.b s.written_b c.b

-- What was printed and what a crash may leave, between two calls.
abbrev pub Now : State → List ℕ → Image → Type 0
Now s p c = (p ≡ s.printed) × IsImage s c

-- Within a call: while a text is printed, a front of it stands printed.
abbrev pub During : State → Change → List ℕ → Image → Type 0
During s (Said text) p c = ((said : List ℕ) × IsPrefix said text.items × (p ≡ s.printed ++ said)) × IsImage s c
During s (Wrote area at bytes) p c = ⊥
During s Synced p c = ⊥

-- At the moments since t notes were made.
abbrev pub Since : State → List Note → ℕ → List ℕ → Image → Type 0
Since s [] t p c = Now s p c
Since s (note ∷ notes) zero p c = Now s p c ⊎ (During s note.change p c ⊎ Since (changed s note.change) notes zero p c)
Since s (note ∷ notes) (suc t) p c = Since (changed s note.change) notes t p c

-- The moment of a sync that is the n-th note, counted from 1.
abbrev pub sync_at : ℕ → Change → List ℕ
sync_at n Synced = n ∷ []
sync_at n (Wrote area at bytes) = []
sync_at n (Said text) = []

-- The moments of the syncs, where n notes were made before.
abbrev pub syncs : ℕ → List Note → List ℕ
syncs n [] = []
syncs n (note ∷ notes) = sync_at (n + 1) note.change ++ syncs (n + 1) notes

-- The notes give the files and the text that are kept beside them.
pub record IsKept (first files : Image) (printed : List ℕ) (notes : List Note) : Type 0 where
  pub seen_is : (replay (start first) notes).seen ≡ files
  pub printed_is : (replay (start first) notes).printed ≡ printed

-- What is known of a host that was given such names, began with these files and has these now.
abbrev pub view_of : (List (List ℕ) → Type 0) → Image → Image → List ℕ → List Note → ℕ → ℕ → View
view_of attached first files printed notes disk_faults say_faults = record {
  attached = attached;
  is_attached = IsGiven attached;
  told = Unit {0};
  seen = files;
  may_leave = λ c. IsImage (replay (start first) notes) c;
  printed = printed;
  moment = length notes;
  since = λ t p c. Since (start first) notes t p c;
  synced = syncs 0 notes;
  disk_faults = disk_faults;
  say_faults = say_faults;
}
