use Rattle.std.proofs.Common.{◌≡◌, length}
use Rattle.pl_catalog.specs.Entries.{there}
use Rattle.pl_catalog.proofs.entries.first_there.Given as goal

abbrev pub invariant-loop-entries : goal.invariant-loop-entries
invariant-loop-entries l = there l.entries ≡ there l.fn.entries

abbrev pub decreases-loop-entries : goal.decreases-loop-entries
decreases-loop-entries l = length l.entries
