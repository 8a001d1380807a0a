use Rattle.std.proofs.Common.{◌≡◌, length}
use Rattle.pl_targets.specs.Columns.{column_named}
use Rattle.pl_targets.proofs.columns.column_named.Given as goal

abbrev pub invariant-loop-columns : goal.invariant-loop-columns
invariant-loop-columns l = column_named l.name l.columns ≡ column_named l.name l.fn.columns

abbrev pub decreases-loop-columns : goal.decreases-loop-columns
decreases-loop-columns l = length l.columns
