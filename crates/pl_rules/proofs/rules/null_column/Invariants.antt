use Rattle.std.proofs.Common.{◌≡◌, length}
use Rattle.pl_rules.specs.Rules.{null_failure}
use Rattle.pl_rules.proofs.rules.null_column.Given as goal

abbrev pub invariant-loop-columns : goal.invariant-loop-columns
invariant-loop-columns l = null_failure l.fn.columns l.fn.row ≡ null_failure l.columns l.row

abbrev pub decreases-loop-columns : goal.decreases-loop-columns
decreases-loop-columns l = length l.columns
