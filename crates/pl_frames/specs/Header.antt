-- What the calls that inspect an area and make a new one do.
use Rattle.std.specs.Prelude.{◌≡◌, ◌≢◌, ◌⊎◌, ℕ, List, ◌∷◌, ◌++◌, length, take, drop, Bool, true, false, slice_index, Option, Some, None}
use Rattle.std.specs.Int.{from_be_bytes, w64}
use Rattle.pl_base.specs.Image.{Image, file, other}
use Rattle.pl_base.specs.declared.area.Area.{Area}
use Rattle.pl_frames.specs.Format.{header_bytes, is_open, has_header}
use Rattle.pl_disk.specs.Disk.{View}

-- byte 0 is there and isn't 1
pub record Shut (file : List ℕ) : Type 0 where
  pub gate : ℕ
  pub rest : List ℕ
  pub split : file ≡ gate ∷ rest
  pub shut : gate ≢ 1

-- the header and a closed first gate stand behind byte 0
pub record Laid (generation : ℕ) (file : List ℕ) : Type 0 where
  pub gate : ℕ
  pub rest : List ℕ
  pub split : file ≡ gate ∷ (header_bytes generation ++ 0 ∷ rest)

-- each crash leaves a file of this area that has P
abbrev pub Leaves : Area → (List ℕ → Type 0) → View → Type 0
Leaves area P v = (c : Image) → v.may_leave c → P (file area c)

-- the area stays or is closed; the other one stays
pub record MayClose (area : Area) (old new : Image) : Type 0 where
  pub rest : file (other area) new ≡ file (other area) old
  pub change : (file area new ≡ file area old) ⊎ (is_open (file area new) ≡ false)

-- byte 0 stays, and so does the other area
pub record MayLay (area : Area) (old new : Image) : Type 0 where
  pub rest : file (other area) new ≡ file (other area) old
  pub gate : take 1 (file area new) ≡ take 1 (file area old)

-- byte 0 isn't 1, or it is and the bytes behind it stay; the other area stays
pub record MayOpen (area : Area) (old new : Image) : Type 0 where
  pub rest : file (other area) new ≡ file (other area) old
  pub change : Shut (file area new) ⊎ (file area new ≡ 1 ∷ drop 1 (file area old))

-- what is found of an area: that it is closed, or its generation
abbrev pub IsInspected : List ℕ → Option ℕ → Type 0
IsInspected file None = is_open file ≡ false
IsInspected file (Some generation) =
    (is_open file ≡ true) × (has_header file ≡ true) × (generation ≡ from_be_bytes w64 (take 8 (drop 9 file)))

-- the damage that is found at its beginning: it is open, and doesn't begin as it has to
abbrev pub LacksHeader : Area → View → Area → ℕ → Type 0
LacksHeader area v where_ place =
    v.told → (where_ ≡ area) × (place ≡ 0) × (is_open (file area v.seen) ≡ true) × (has_header (file area v.seen) ≡ false)

-- whether byte 0 is there and isn't 1
pub record IsShutRead (file : List ℕ) (shut : Bool) : Type 0 where
  pub yes : shut ≡ true → Shut file
  pub no : shut ≡ false → (length file ≡ 0) ⊎ (slice_index file 0 ≡ 1)
