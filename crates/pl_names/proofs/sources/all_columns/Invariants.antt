use Rattle.std.proofs.Common.{◌≡◌, length}
use Rattle.pl_names.specs.Sources.{all_columns}
use Rattle.pl_names.proofs.sources.all_columns.Given as goal

abbrev pub invariant-loop-sources : goal.invariant-loop-sources
invariant-loop-sources l = all_columns l.fn.items l.fn.sources ≡ all_columns l.items l.sources

abbrev pub decreases-loop-sources : goal.decreases-loop-sources
decreases-loop-sources l = length l.sources
