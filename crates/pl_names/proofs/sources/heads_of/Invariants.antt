use Rattle.std.proofs.Common.{◌≡◌, ◌++◌, map, drop}
use Rattle.pl_names.specs.Sources.{head_of_column}
use Rattle.pl_names.proofs.sources.heads_of.Given as goal

abbrev pub invariant-loop-column : goal.invariant-loop-column
invariant-loop-column l = map head_of_column l.columns ≡ l.heads ++ map head_of_column (drop l.column-index l.columns)
