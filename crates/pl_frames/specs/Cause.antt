-- Why a call over frames fails.
use Rattle.std.specs.Prelude.{ℕ}
use Rattle.pl_base.specs.declared.area.Area.{Area}
use Rattle.pl_disk.specs.Disk.{View, Rises}
use Rattle.pl_frames.specs.declared.fail.FrameFail.{FrameFail}
use Rattle.pl_frames.specs.declared.fail.FrameFail.TheVariants.{Fault, Memory, Damaged}

-- A line an ending: a call of the disk failed; the place is damaged, of which the call says what it means; or there was no memory.
abbrev pub HasCause : (Area → ℕ → Type 0) → View → View → FrameFail → Type 0
HasCause damage old new Fault = Rises old.disk_faults new.disk_faults
HasCause damage old new (Damaged area at) = damage area at
HasCause damage old new Memory = Unit {0}

-- of a call that finds no damage
abbrev pub Never : Area → ℕ → Type 0
Never area at = ⊥
