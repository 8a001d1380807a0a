use Rattle.std.proofs.Common.{◌≡◌, length}
use Rattle.pl_catalog.specs.Entries.{there}
use Rattle.pl_catalog.specs.Objects.{routine_named, routines_in}
use Rattle.pl_catalog.proofs.entries.routine_among.Given as goal

abbrev pub invariant-loop-entries : goal.invariant-loop-entries
invariant-loop-entries l =
    routine_named l.name (routines_in (there l.entries)) ≡ routine_named l.name (routines_in (there l.fn.entries))

abbrev pub decreases-loop-entries : goal.decreases-loop-entries
decreases-loop-entries l = length l.entries
