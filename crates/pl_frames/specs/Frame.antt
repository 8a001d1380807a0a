-- What the calls that read a frame and append one do.
use Rattle.std.specs.Prelude.{◌≡◌, ◌≢◌, ◌⊎◌, ◌≤◌, ◌<◌, ℕ, ◌+◌, List, [], ◌∷◌, ◌++◌, length, take, drop, Option, Some, None}
use Rattle.std.specs.Int.{from_be_bytes, w64}
use Rattle.pl_base.specs.Image.{Image, file, other}
use Rattle.pl_base.specs.declared.area.Area.{Area}
use Rattle.pl_disk.specs.Disk.{View, Only}
use Rattle.pl_frames.specs.Format.{Frames, frame_bytes}
use Rattle.pl_frames.specs.declared.frame.Frame.{Frame}

-- in every image the area's frames end at this place
abbrev pub EndsAt : Area → ℕ → (Image → Type 0) → Type 0
EndsAt area at may_leave = (c : Image) → may_leave c → (head : List ℕ) × (list : List (List ℕ)) × Frames (file area c) head list at

-- the frames stay, or the new one joins them; the header and the other area stay
pub record MayAppend (area : Area) (at : ℕ) (payload : List ℕ) (old new : Image) : Type 0 where
  pub rest : file (other area) new ≡ file (other area) old
  pub frames : (head : List ℕ) (list : List (List ℕ)) → Frames (file area old) head list at
      → Frames (file area new) head list at ⊎ Frames (file area new) head (list ++ payload ∷ []) (at + 9 + length payload)

-- the new frame joined the others, which end at that place now; the header and the other area stay
pub record Joined (area : Area) (at : ℕ) (payload : List ℕ) (end : ℕ) (old new : Image) : Type 0 where
  pub rest : file (other area) new ≡ file (other area) old
  pub frames : (head : List ℕ) (list : List (List ℕ)) → Frames (file area old) head list at → Frames (file area new) head (list ++ payload ∷ []) end

-- an append is done: a crash leaves what is read, which has the new frame
pub record Appended (area : Area) (at : ℕ) (payload : List ℕ) (end : ℕ) (old new : View) : Type 0 where
  pub durable : Only new.seen new.may_leave
  pub joined : Joined area at payload end old.seen new.seen

-- an open gate without a whole frame and a next gate behind it
abbrev pub IsBroken : List ℕ → Type 0
IsBroken rest = (tail : List ℕ) × (rest ≡ 1 ∷ tail) × (length tail ≤ 8 + from_be_bytes w64 (take 8 tail))

-- what is read at a gate: that it is closed, or the frame behind it
abbrev pub IsRead : List ℕ → ℕ → Option Frame → Type 0
IsRead file at None = (gate : ℕ) × (tail : List ℕ) × (drop at file ≡ gate ∷ tail) × (gate ≢ 1)
IsRead file at (Some frame) =
    (drop at file ≡ frame_bytes frame.payload ++ drop frame.end file)
    × (frame.end ≡ at + 9 + length frame.payload)
    × (frame.end < length file)

-- the damage that is found at a gate: it is open, and its frame is broken
abbrev pub BreaksAt : Area → ℕ → View → Area → ℕ → Type 0
BreaksAt area at v where_ place = v.told → (where_ ≡ area) × (place ≡ at) × IsBroken (drop at (file area v.seen))
