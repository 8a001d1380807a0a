use Rattle.std.proofs.Common.{◌≡◌, length}
use Rattle.pl_catalog.specs.Entries.{there}
use Rattle.pl_catalog.specs.Objects.{table_named, tables_in}
use Rattle.pl_catalog.proofs.entries.table_among.Given as goal

abbrev pub invariant-loop-entries : goal.invariant-loop-entries
invariant-loop-entries l =
    table_named l.name (tables_in (there l.entries)) ≡ table_named l.name (tables_in (there l.fn.entries))

abbrev pub decreases-loop-entries : goal.decreases-loop-entries
decreases-loop-entries l = length l.entries
