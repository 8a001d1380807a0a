use Rattle.std.proofs.Common.{◌≡◌, length}
use Rattle.pl_names.specs.Names.{also, columns_in}
use Rattle.pl_names.proofs.names.columns_in.Given as goal

abbrev pub invariant-loop-sources : goal.invariant-loop-sources
invariant-loop-sources l = columns_in l.name l.is_barred l.fn.sources ≡ also l.found (columns_in l.name l.is_barred l.sources)

abbrev pub decreases-loop-sources : goal.decreases-loop-sources
decreases-loop-sources l = length l.sources
