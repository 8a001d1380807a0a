-- A count that rises where a device failed, and is as it was for want of memory.
use Rattle.std.specs.Prelude.{◌≡◌, ℕ, Result, Ok, Err}
use Rattle.pl_disk.specs.Disk.{Rises}
use Rattle.pl_engine.specs.declared.port.PortFail.{PortFail}
use Rattle.pl_engine.specs.declared.port.PortFail.TheVariants.{Device, Memory}

-- the count before the call and after it
abbrev pub Rose : Result (Unit {0}) PortFail → ℕ → ℕ → Type 0
Rose (Ok u) old new = Unit {0}
Rose (Err Device) old new = Rises old new
Rose (Err Memory) old new = new ≡ old
