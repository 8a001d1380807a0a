-- The counts after a call, as the views of a host need them.
use Rattle.std.proofs.Common.{◌≡◌, ℕ, sym, ap, arith}
use Rattle.pl_disk.specs.Disk.{Rises}
use Rattle.pl_disk.specs.Counts.{tally_of}
use Rattle.pl_disk.specs.Tally.{Tally, raised}
use Rattle.pl_disk.specs.declared.memory.counts.Counts.{Counts}

pub same_disk : (old new : Counts) (n : ℕ) → tally_of new ≡ record (tally_of old) { calls = n } → old.disk_faults ≡ new.disk_faults
same_disk old new n is = sym (ap (λ (t : Tally). t.disk_faults) is)

pub same_say : (old new : Counts) (n : ℕ) → tally_of new ≡ record (tally_of old) { calls = n } → old.say_faults ≡ new.say_faults
same_say old new n is = sym (ap (λ (t : Tally). t.say_faults) is)

pub rises : (old new : ℕ) → new ≡ raised old → Rises old new
rises old new is = λ below. omega (arith, is, below)
