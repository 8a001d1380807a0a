-- What the calls that open a store and read it find.
use Rattle.std.specs.Prelude.{◌≡◌, ◌<◌, ◌++◌, ◌^◌, ℕ, List, [], ◌∷◌, Some, None, Option, Result, Ok, Err}
use Rattle.pl_base.specs.Image.{Image, file}
use Rattle.pl_base.specs.declared.area.Area.{Area}
use Rattle.pl_base.specs.declared.area.Area.TheVariants.{A, B}
use Rattle.pl_disk.specs.Disk.{View}
use Rattle.pl_frames.specs.Header.{Laid}
use Rattle.pl_frames.specs.declared.fail.FrameFail.{FrameFail}
use Rattle.pl_frames.specs.declared.fail.FrameFail.TheVariants.{Fault, Damaged, Memory}
use Rattle.pl_keeper.specs.Batches.{Stored, batches, counting, generation_in, greater}
use Rattle.pl_keeper.specs.Store.{IsReading, IsStore, first_head, stored}
use Rattle.pl_keeper.specs.declared.head.Head.{Head}
use Rattle.pl_keeper.specs.declared.reader.Step.{Step}
use Rattle.pl_keeper.specs.declared.reader.Step.TheVariants.{Read, End}

-- ---- the headers

-- the generation of an area, of those of the two
abbrev pub generation_of : Area → (a b : Option ℕ) → Option ℕ
generation_of A a b = a
generation_of B a b = b

-- which of two areas counts, before its first frame, or the damage
abbrev pub IsGreater : (a b : Option ℕ) → Result (Option Head) FrameFail → Type 0
IsGreater a b (Ok None) = greater a b ≡ Ok None
IsGreater a b (Ok (Some head)) = (greater a b ≡ Ok (Some head.area))
    × (generation_of head.area a b ≡ Some head.generation) × (head ≡ first_head head.area head.generation)
IsGreater a b (Err (Damaged area at)) = greater a b ≡ Err (record { area = area; at = at })
IsGreater a b (Err Fault) = ⊥
IsGreater a b (Err Memory) = ⊥

-- it is the head of the area that counts, before its first frame
pub record IsFirst (head : Head) (image : Image) : Type 0 where
  pub counts : counting image ≡ Ok (Some head.area)
  pub generation : generation_in (file head.area image) ≡ Ok (Some head.generation)
  pub first : head ≡ first_head head.area head.generation

abbrev pub IsCounting : Image → Option Head → Type 0
IsCounting image None = counting image ≡ Ok None
IsCounting image (Some head) = IsFirst head image

-- the damage is that of the headers
abbrev pub IsMisheaded : View → Area → ℕ → Type 0
IsMisheaded v area at = v.told → counting v.seen ≡ Err (record { area = area; at = at })

-- ---- a store that is opened

-- the files that are left while a settled store is opened: they have the batches that are read, and the same area B
abbrev pub KeepsBatches : View → Image → Type 0
KeepsBatches v c = (batches c ≡ batches v.seen) × (c.b ≡ v.seen.b)

-- it is opened: nothing is unsettled, and none of the batches was read yet
pub record Opened (old new : View) (head : Head) : Type 0 where
  pub same : batches new.seen ≡ batches old.seen
  pub reading : IsReading new head []
  pub new_area : counting old.seen ≡ Ok None → (c : Image) → new.may_leave c → Laid 0 c.a

-- ---- a step of the reader

-- the next batch stands behind those that were read; at the end they are all
abbrev pub IsStep : View → (reader : Head) → List Stored → Step → Type 0
IsStep v reader list (Read batch rest) = (batch.at ≡ reader.end) × IsReading v rest (list ++ stored batch ∷ [])
IsStep v reader list (End keeper) = IsStore v keeper list

-- a batch brings the reader further
abbrev pub ReadsOn : (reader : Head) → Step → Type 0
ReadsOn reader (Read batch rest) = (reader.end < rest.end) × (rest.end < 2 ^ 63)
ReadsOn reader (End keeper) = Unit {0}
