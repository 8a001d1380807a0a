use Rattle.std.proofs.Common.{◌≡◌, length}
use Rattle.pl_catalog.specs.Dependents.{first_dependent}
use Rattle.pl_catalog.specs.Entries.{there}
use Rattle.pl_catalog.proofs.dependents.first_dependent.Given as goal

abbrev pub invariant-loop-entries : goal.invariant-loop-entries
invariant-loop-entries l =
    first_dependent l.which (there l.entries) ≡ first_dependent l.which (there l.fn.entries)

abbrev pub decreases-loop-entries : goal.decreases-loop-entries
decreases-loop-entries l = length l.entries
