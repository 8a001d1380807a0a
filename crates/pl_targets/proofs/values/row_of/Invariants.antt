use Rattle.std.proofs.Common.{◌≡◌, length}
use Rattle.pl_names.specs.Names.{around}
use Rattle.pl_targets.specs.Columns.{defaults}
use Rattle.pl_targets.specs.Values.{row_on}
use Rattle.pl_targets.proofs.values.row_of.Given as goal

abbrev pub invariant-loop-values : goal.invariant-loop-values
invariant-loop-values l = row_on l.fn.values l.fn.places l.columns (defaults l.columns) (around l.names) l.fn.made ≡ row_on l.values l.places l.columns l.row (around l.names) l.made

abbrev pub decreases-loop-values : goal.decreases-loop-values
decreases-loop-values l = length l.values
