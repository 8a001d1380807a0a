use Rattle.std.proofs.Common.{◌≡◌, length}
use Rattle.pl_names.specs.Sources.{source_in}
use Rattle.pl_names.proofs.sources.source_in.Given as goal

abbrev pub invariant-loop-sources : goal.invariant-loop-sources
invariant-loop-sources l = source_in l.name l.fn.sources ≡ source_in l.name l.sources

abbrev pub decreases-loop-sources : goal.decreases-loop-sources
decreases-loop-sources l = length l.sources
