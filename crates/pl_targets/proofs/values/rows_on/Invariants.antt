use Rattle.std.proofs.Common.{◌≡◌, [], drop}
use Rattle.pl_names.specs.Names.{around}
use Rattle.pl_targets.specs.Values.{rows_on}
use Rattle.pl_targets.proofs.values.rows_on.Given as goal

abbrev pub invariant-loop-row : goal.invariant-loop-row
invariant-loop-row l = rows_on l.rows l.places l.columns [] (around l.names) l.fn.made ≡ rows_on (drop l.row-index l.rows) l.places l.columns l.done (around l.names) l.made
