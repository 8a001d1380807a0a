use Rattle.std.proofs.Common.{◌≡◌, length}
use Rattle.pl_names.specs.Sources.{is_named}
use Rattle.pl_names.proofs.sources.is_named.Given as goal

abbrev pub invariant-loop-sources : goal.invariant-loop-sources
invariant-loop-sources l = is_named l.name l.fn.sources ≡ is_named l.name l.sources

abbrev pub decreases-loop-sources : goal.decreases-loop-sources
decreases-loop-sources l = length l.sources
