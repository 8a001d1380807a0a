-- The count of a device that failed rises, and why a call failed.
use Rattle.std.proofs.Common.{◌≡◌, ℕ, Result, Err, ap}
use Rattle.pl_disk.specs.Disk.{Rises}
use Rattle.pl_engine.specs.Faults.{Rose}
use Rattle.pl_engine.specs.declared.port.PortFail.{PortFail}
use Rattle.pl_engine.specs.declared.port.PortFail.TheVariants.{Device, Memory}

pub risen : (fail : PortFail) {a b : ℕ} → fail ≡ Device → Rose (Err fail) a b → Rises a b
risen Device is r = r
risen Memory is r = absurd cc

pub wanted : {fail : PortFail} → fail ≡ Memory → (let r : Result (Unit {0}) PortFail = Err fail in r ≡ Err Memory)
wanted is = ap (λ (f : PortFail). let r : Result (Unit {0}) PortFail = Err f in r) is
