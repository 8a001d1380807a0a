use Rattle.std.proofs.Common.{◌≡◌, length}
use Rattle.pl_names.specs.Sources.{share_name}
use Rattle.pl_names.proofs.sources.share_name.Given as goal

abbrev pub invariant-loop-sources : goal.invariant-loop-sources
invariant-loop-sources l = share_name l.fn.sources l.others ≡ share_name l.sources l.others

abbrev pub decreases-loop-sources : goal.decreases-loop-sources
decreases-loop-sources l = length l.sources
