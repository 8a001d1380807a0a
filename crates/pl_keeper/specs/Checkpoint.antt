-- When a checkpoint is due, and what one does to a store.
use Rattle.std.specs.Prelude.{◌≡◌, ◌⊎◌, ◌&&◌, ℕ, ◌+◌, ◌*◌, ◌-◌, ◌^◌, List, [], ◌∷◌, Bool, nat_lt, Some, Ok}
use Rattle.pl_base.specs.Image.{Image, other}
use Rattle.pl_base.specs.declared.operation.Op.{Op}
use Rattle.pl_codec.specs.Reading.{operations_of}
use Rattle.pl_disk.specs.Disk.{View}
use Rattle.pl_keeper.specs.Batches.{Stored, batches}
use Rattle.pl_keeper.specs.Store.{IsStore, behind, first_head}
use Rattle.pl_keeper.specs.declared.head.Head.{Head}

-- The frames grew past twice the first one and 4 MiB more: the area is to be written anew. The greatest generation has no next one.
abbrev pub is_due : Head → Bool
is_due head = nat_lt head.generation (2 ^ 64 - 1) && nat_lt (2 * head.base + 4194304) (head.end + 1)

-- the head of the other area, once it holds one frame, whose next gate stands at this place
abbrev pub next_head : Head → (end : ℕ) → Head
next_head head end = behind (first_head (other head.area) (head.generation + 1)) end

-- The files that are left while one runs: they have the batches from before, in the area that counts; or the one new batch, in the
-- other area.
abbrev pub Checkpointing : View → Head → List Op → Image → Type 0
Checkpointing v keeper ops c = (list : List Stored) → IsStore v keeper list
    → (batches c ≡ Ok (record { area = keeper.area; list = list }))
    ⊎ (batches c ≡ Ok (record { area = other keeper.area; list = (17, ops) ∷ [] }))

-- It is done: the other area counts, with the next generation and the one batch, and nothing is unsettled.
pub record Checkpointed (new : View) (keeper keeper' : Head) (ops : List Op) : Type 0 where
  pub head : keeper' ≡ next_head keeper keeper'.end
  pub store : IsStore new keeper' ((17, ops) ∷ [])

-- both, of the operations that a payload spells
abbrev pub CheckpointingPayload : View → Head → List ℕ → Image → Type 0
CheckpointingPayload v keeper payload c = (ops : List Op) → operations_of payload ≡ Some ops → Checkpointing v keeper ops c

abbrev pub CheckpointedPayload : View → Head → Head → List ℕ → Type 0
CheckpointedPayload new keeper keeper' payload = (ops : List Op) → operations_of payload ≡ Some ops → Checkpointed new keeper keeper' ops
