use Rattle.std.proofs.Common.{◌≡◌, ◌+◌, length}
use Rattle.pl_names.specs.Sources.{columns_on}
use Rattle.pl_names.proofs.sources.columns_on.Given as goal

abbrev pub invariant-loop-rest : goal.invariant-loop-rest
invariant-loop-rest l = (columns_on l.fn.items l.row 0 l.heads ≡ columns_on l.items l.row l.column l.rest) × (l.column + length l.rest ≡ length l.heads)

abbrev pub decreases-loop-rest : goal.decreases-loop-rest
decreases-loop-rest l = length l.rest
