use Rattle.std.proofs.Common.{◌≡◌, ◌+◌, length}
use Rattle.pl_names.specs.Names.{also, columns_named}
use Rattle.pl_names.proofs.names.columns_named.Given as goal

abbrev pub invariant-loop-rest : goal.invariant-loop-rest
invariant-loop-rest l = (columns_named l.name l.is_barred l.source.row 0 l.source.columns ≡ also l.found (columns_named l.name l.is_barred l.source.row l.column l.rest)) × (l.column + length l.rest ≡ length l.source.columns)

abbrev pub decreases-loop-rest : goal.decreases-loop-rest
decreases-loop-rest l = length l.rest
