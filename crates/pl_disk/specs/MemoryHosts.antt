-- What is known of a host in memory, and how its calls end.
use Rattle.std.specs.Prelude.{ℕ, ◌≡◌, ◌⊎◌, List, [], ◌∷◌, ◌++◌, Result, IsErr, OnOk, OnErr, Vec}
use Rattle.std.specs.declared.alloc.Global.{Global}
use Rattle.pl_base.specs.Image.{Image}
use Rattle.pl_base.specs.declared.area.Area.{Area}
use Rattle.pl_disk.specs.Attached.{AreAttached}
use Rattle.pl_disk.specs.Disk.{View, Only}
use Rattle.pl_disk.specs.Tally.{Tally, IsListed, raised, tally_from}
use Rattle.pl_disk.specs.Counts.{tally_of}
use Rattle.pl_disk.specs.Left.{IsFilled}
use Rattle.pl_disk.specs.Picks.{notes_until}
use Rattle.pl_disk.specs.Replay.{State, image_of, put_in, view_of, replay, start, IsImage}
use Rattle.pl_disk.specs.declared.device.Failed.{Failed}
use Rattle.pl_disk.specs.declared.memory.host.MemoryHost.{MemoryHost}
use Rattle.pl_disk.specs.declared.memory.image_after.Pick.{Pick}
use Rattle.pl_disk.specs.declared.memory.image_after.Pick.TheVariants.{Old, New, Fill}
use Rattle.pl_disk.specs.declared.memory.note.Change.{Change}
use Rattle.pl_disk.specs.declared.memory.note.Change.TheVariants.{Wrote, Said}
use Rattle.pl_disk.specs.declared.memory.note.Note.{Note}

abbrev pub host_view : MemoryHost → View
host_view h = view_of (AreAttached h.attached) (image_of h.first) (image_of h.files) h.printed.items h.notes.items h.counts.disk_faults h.counts.say_faults

-- Its counts, and the numbers of the calls that are to fail.
abbrev pub tally : MemoryHost → Tally
tally h = tally_of h.counts

-- The files that it began with.
abbrev pub first_image : MemoryHost → Image
first_image h = image_of h.first

-- What it noted of its calls.
abbrev pub notes_of : MemoryHost → List Note
notes_of h = h.notes.items

-- It noted one change more, as that of this call.
abbrev pub Notes : MemoryHost → MemoryHost → Change → Type 0
Notes old new change = notes_of new ≡ notes_of old ++ (record { call = (tally old).calls; change = change }) ∷ []

-- How many bytes a call does first that is listed to fail.
abbrev pub part : MemoryHost → ℕ
part h = h.part

-- Before its first call.
pub record IsFreshHost (first : Image) (fail : List ℕ) (part_is : ℕ) (h : MemoryHost) : Type 0 where
  pub part : part h ≡ part_is
  pub tally_is : tally h ≡ tally_from fail
  pub first_is : first_image h ≡ first
  pub notes_is : notes_of h ≡ []
  pub attached : (host_view h).attached []
  pub told : (host_view h).told
  pub seen_is : (host_view h).seen ≡ first
  pub settled : Only first (host_view h).may_leave
  pub printed_is : (host_view h).printed ≡ []

-- How a call ends: it counts, and fails exactly where its number is listed or it found no memory. Where it fails it changes
-- nothing but the counts, if no part of it is done first.
pub record Ends {T : Type 0} (old new : MemoryHost) (result : Result T Failed) : Type 0 where
  pub fail_list : (tally new).fail ≡ (tally old).fail
  pub counted : (tally new).calls ≡ raised (tally old).calls
  pub first_is : first_image new ≡ first_image old
  pub fails_where_listed : IsListed (tally old).fail (tally old).calls → IsErr result
  pub cause : IsErr result → IsListed (tally old).fail (tally old).calls ⊎ ((tally new).starved ≡ raised (tally old).starved)
  pub well : OnOk result ((tally new).starved ≡ (tally old).starved)
  pub well_disk : OnOk result ((tally new).disk_faults ≡ (tally old).disk_faults)
  pub well_say : OnOk result ((tally new).say_faults ≡ (tally old).say_faults)
  pub same_part : part new ≡ part old
  pub nothing_noted : part old ≡ 0 → OnErr result (notes_of new ≡ notes_of old)
  pub nothing_changed : part old ≡ 0 → OnErr result ((host_view new).seen ≡ (host_view old).seen)
  pub nothing_printed : part old ≡ 0 → OnErr result ((host_view new).printed ≡ (host_view old).printed)

-- ---- the steps of a call

-- all but the files, the notes and what is printed stays
pub record KeepsRest (old new : MemoryHost) : Type 0 where
  pub first : new.first ≡ old.first
  pub counts : new.counts ≡ old.counts
  pub attached : new.attached ≡ old.attached
  pub part : new.part ≡ old.part

pub record KeepsFiles (old new : MemoryHost) : Type 0 where
  pub notes : notes_of new ≡ notes_of old
  pub files : image_of new.files ≡ image_of old.files

pub record KeepsPrinted (old new : MemoryHost) : Type 0 where
  pub notes : notes_of new ≡ notes_of old
  pub printed : new.printed ≡ old.printed

-- these bytes were put into a file, and noted as those of this call
pub record Puts (call : ℕ) (area : Area) (at : ℕ) (bytes : List ℕ) (old new : MemoryHost) : Type 0 where
  pub copy : Vec ℕ Global
  pub same : copy.items ≡ bytes
  pub noted : notes_of new ≡ notes_of old ++ (record { call = call; change = Wrote area at copy }) ∷ []
  pub files : image_of new.files ≡ put_in area at bytes (image_of old.files)

-- this text was printed, and noted as that of this call
pub record Prints (call : ℕ) (text : List ℕ) (old new : MemoryHost) : Type 0 where
  pub copy : Vec ℕ Global
  pub same : copy.items ≡ text
  pub noted : notes_of new ≡ notes_of old ++ (record { call = call; change = Said copy }) ∷ []
  pub printed : new.printed.items ≡ old.printed.items ++ text

-- How it stood just after a call.
abbrev pub state_after : MemoryHost → ℕ → State
state_after h call = replay (start (first_image h)) (notes_until call (notes_of h))

-- What image_after gives. Where something isn't settled it is as the pick says, elsewhere as at the last sync; a crash just
-- after that call may leave it, and so it is among what the host tells of its moments.
pub record LeftAfter (h : MemoryHost) (call : ℕ) (pick : Pick) (left : Image) : Type 0 where
  pub old : pick ≡ Old → left ≡ (state_after h call).synced
  pub new : pick ≡ New → left ≡ (state_after h call).seen
  pub fill_a : (byte : ℕ) → pick ≡ Fill byte → IsFilled byte (state_after h call).written_a (state_after h call).seen.a left.a
  pub fill_b : (byte : ℕ) → pick ≡ Fill byte → IsFilled byte (state_after h call).written_b (state_after h call).seen.b left.b
  pub may_leave : IsImage (state_after h call) left
  pub a_moment : (host_view h).since 0 (state_after h call).printed left
