-- That a store is short.
use Rattle.std.specs.Prelude.{◌≡◌, ◌⊎◌, List, false}
use Rattle.pl_base.specs.Image.{Image}
use Rattle.pl_keeper.specs.Batches.{Stored}
use Rattle.pl_keeper.specs.Checkpoint.{is_due}
use Rattle.pl_keeper.specs.Store.{Has}
use Rattle.pl_keeper.specs.declared.head.Head.{Head}
use Rattle.pl_exec.specs.pl_world.declared.session.Mode.{Mode}
use Rattle.pl_exec.specs.pl_world.declared.session.Mode.TheVariants as mode

-- the files are a store of which no checkpoint is due
abbrev pub IsShort : Image → Type 0
IsShort image = (list : List Stored) × (head : Head) × Has list head image × (is_due head ≡ false)

-- no checkpoint is due, unless the session is in a transaction block; or nothing was done at all
abbrev pub StaysShort : {H : Type 0} → Mode → (keeper : Head) → (old new : H) → Type 0
StaysShort m keeper old new = (m ≡ mode.Idle → is_due keeper ≡ false) ⊎ (new ≡ old)
