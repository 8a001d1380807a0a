use Rattle.std.proofs.Common.{◌≡◌, ◌++◌, map, drop}
use Rattle.pl_targets.specs.Columns.{default_of}
use Rattle.pl_targets.proofs.columns.defaults.Given as goal

abbrev pub invariant-loop-column : goal.invariant-loop-column
invariant-loop-column l = map default_of l.columns ≡ l.row ++ map default_of (drop l.column-index l.columns)
