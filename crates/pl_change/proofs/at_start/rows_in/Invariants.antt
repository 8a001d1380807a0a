use Rattle.std.proofs.Common.{◌≡◌, drop}
use Rattle.pl_change.specs.Running.{copied}
use Rattle.pl_change.proofs.at_start.rows_in.Given as goal

abbrev pub invariant-loop-table : goal.invariant-loop-table
invariant-loop-table l = copied l.list l.name ≡ copied (drop l.table-index l.list) l.name
