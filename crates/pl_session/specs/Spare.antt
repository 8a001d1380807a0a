-- What opening a session leaves of the area that doesn't count.
use Rattle.std.specs.Prelude.{◌≡◌}
use Rattle.pl_base.specs.Image.{file}
use Rattle.pl_base.specs.declared.area.Area.{Area}
use Rattle.pl_disk.specs.Disk.{View, Elapses}
use Rattle.pl_keeper.specs.Store.{KeepsFile}

-- The file of this area stays byte for byte: as it reads, and at each moment as a crash might have left it before.
pub record KeepsArea (area : Area) (old new : View) : Type 0 where
  pub reads : file area new.seen ≡ file area old.seen
  pub time : Elapses old new (λ p c. KeepsFile area old c)
