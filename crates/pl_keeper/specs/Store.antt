-- What a store is at a moment, and what a call of its keeper may do to it.
use Rattle.std.specs.Prelude.{◌≡◌, ◌⊎◌, ◌&&◌, ◌==◌, ◌<◌, ◌≤◌, ℕ, ◌+◌, ◌^◌, List, [], ◌∷◌, ◌++◌, length, take, drop, nat_lt, None, Some, Ok, Err, if◌then◌else◌}
use Rattle.std.specs.List.{flat_map}
use Rattle.pl_base.specs.Image.{Image, file, other}
use Rattle.pl_base.specs.declared.area.Area.{Area}
use Rattle.pl_base.specs.declared.area.Area.TheVariants.{B}
use Rattle.pl_base.specs.declared.operation.Op.{Op}
use Rattle.pl_codec.specs.Reading.{operations_of}
use Rattle.pl_disk.specs.Disk.{View, Only}
use Rattle.pl_frames.specs.Format.{Frames, frame_bytes, read_all}
use Rattle.pl_frames.specs.Header.{Laid}
use Rattle.pl_keeper.specs.Batches.{Stored, batches, counting, generation_in}
use Rattle.pl_keeper.specs.declared.batch.Batch.{Batch}
use Rattle.pl_keeper.specs.declared.head.Head.{Head}

-- Where the first frame of an area ends, just after its next gate. In a new store, whose generation is 0, and before there is a
-- frame, it is where the header ends.
abbrev pub base_of : (generation : ℕ) → (payloads : List (List ℕ)) → ℕ
base_of generation [] = 18
base_of generation (first ∷ payloads) = if generation == 0 then 18 else 27 + length first

-- the head of an area of no frame, and the one behind one more frame
abbrev pub first_head : Area → (generation : ℕ) → Head
first_head area generation = record { area = area; generation = generation; end = 17; base = 18 }

abbrev pub behind : Head → (end : ℕ) → Head
behind head end = record {
  area = head.area;
  generation = head.generation;
  end = end;
  base = if head.end == 17 && nat_lt 0 head.generation then end + 1 else head.base;
}

-- its places are those of a file
abbrev pub IsPlaced : Head → Type 0
IsPlaced head = (head.end < 2 ^ 63) × (head.base ≤ 2 ^ 63)

-- the files have these batches in the area that counts, whose frames end at the head's place
pub record Has (list : List Stored) (head : Head) (image : Image) : Type 0 where
  pub counts : counting image ≡ Ok (Some head.area)
  pub generation : generation_in (file head.area image) ≡ Ok (Some head.generation)
  pub batches : batches image ≡ Ok (record { area = head.area; list = list })
  pub bytes : List ℕ
  pub payloads : List (List ℕ)
  pub frames : Frames (file head.area image) bytes payloads head.end
  pub base : head.base ≡ base_of head.generation payloads

-- nothing is unsettled, and the files are a store of these batches, whose frames end at the keeper's place
pub record IsStore (v : View) (keeper : Head) (list : List Stored) : Type 0 where
  pub settled : Only v.seen v.may_leave
  pub has : Has list keeper v.seen

-- the files have these batches in front of the gate at the head's place
pub record ReadTo (list : List Stored) (head : Head) (image : Image) : Type 0 where
  pub counts : counting image ≡ Ok (Some head.area)
  pub generation : generation_in (file head.area image) ≡ Ok (Some head.generation)
  pub payloads : List (List ℕ)
  pub split : file head.area image ≡ take 17 (file head.area image) ++ flat_map frame_bytes payloads ++ drop head.end (file head.area image)
  pub place : head.end ≡ 17 + length (flat_map frame_bytes payloads)
  pub gate : head.end < length (file head.area image)
  pub read : read_all operations_of 17 payloads ≡ Ok list
  pub base : head.base ≡ base_of head.generation payloads

-- nothing is unsettled, and these batches were read of the files, up to the reader's gate
pub record IsReading (v : View) (reader : Head) (list : List Stored) : Type 0 where
  pub settled : Only v.seen v.may_leave
  pub read : ReadTo list reader v.seen

abbrev pub IsSomeReading : View → Head → Type 0
IsSomeReading v reader = (list : List Stored) × IsReading v reader list

-- the file of this area is as it is in an image from before
abbrev pub KeepsFile : Area → View → Image → Type 0
KeepsFile area v c = (d : Image) × v.may_leave d × (file area c ≡ file area d)

-- a batch that was read, as the definitions have it
abbrev pub stored : Batch → Stored
stored batch = (batch.at, batch.ops.items)

-- ---- what a recover does

-- the files that are left while it runs: those of an image from before, or a store of the batches that are read
pub record Recovering (v : View) (c : Image) : Type 0 where
  pub batches : v.may_leave c ⊎ (batches c ≡ batches v.seen)
  pub area_b : KeepsFile B v c

-- from its sync on: they have the batches that are read
abbrev pub HasSame : View → List ℕ → Image → Type 0
HasSame v p c = (p ≡ v.printed) × (batches c ≡ batches v.seen)

-- It is done: the files have the batches from before, of which none was read yet. Its first sync succeeded, and where both areas were
-- closed area A has the header of a new store.
pub record Recovered (old new : View) (reader : Head) : Type 0 where
  pub same : batches new.seen ≡ batches old.seen
  pub reading : IsReading new reader []
  pub synced : (t : ℕ) × (later : List ℕ) × (new.synced ≡ old.synced ++ t ∷ later)
  pub new_area : counting old.seen ≡ Ok None → (c : Image) → new.may_leave c → Laid 0 c.a

-- the files aren't those of a store to be made: an area is open, or malformed
abbrev pub IsUsed : Image → Type 0
IsUsed image = counting image ≡ Ok None → ⊥

-- the damage that it finds is that of the files that are read
abbrev pub DamagedAt : View → Area → ℕ → Type 0
DamagedAt v area at = v.told → batches v.seen ≡ Err (record { area = area; at = at })

-- ---- what a commit does

-- a store of some batches, whose frames end at the keeper's place
abbrev pub IsSomeStore : View → Head → Type 0
IsSomeStore v keeper = (list : List Stored) × IsStore v keeper list

-- the files that are left while it runs: they have the batches from before, or those and the new one
pub record Committing (v : View) (keeper : Head) (ops : List Op) (c : Image) : Type 0 where
  pub batches : (list : List Stored) → IsStore v keeper list
      → (batches c ≡ Ok (record { area = keeper.area; list = list }))
      ⊎ (batches c ≡ Ok (record { area = keeper.area; list = list ++ (keeper.end, ops) ∷ [] }))
  pub rest : KeepsFile (other keeper.area) v c

-- the same, of the operations that a payload spells
abbrev pub CommittingPayload : View → Head → List ℕ → Image → Type 0
CommittingPayload v keeper payload c = (ops : List Op) → operations_of payload ≡ Some ops → Committing v keeper ops c

-- it is done: every crash leaves a store of the batches from before and the new one
abbrev pub Committed : View → View → Head → Head → List Op → Type 0
Committed old new keeper keeper' ops = (list : List Stored) → IsStore old keeper list
    → IsStore new keeper' (list ++ (keeper.end, ops) ∷ [])

abbrev pub CommittedPayload : View → View → Head → Head → List ℕ → Type 0
CommittedPayload old new keeper keeper' payload = (ops : List Op) → operations_of payload ≡ Some ops → Committed old new keeper keeper' ops
