use Rattle.std.proofs.Common.{◌≡◌, length}
use Rattle.pl_names.specs.Names.{item_named}
use Rattle.pl_names.proofs.names.item_named.Given as goal

abbrev pub invariant-loop-sources : goal.invariant-loop-sources
invariant-loop-sources l = item_named l.qualifier l.name l.is_barred l.fn.sources ≡ item_named l.qualifier l.name l.is_barred l.sources

abbrev pub decreases-loop-sources : goal.decreases-loop-sources
decreases-loop-sources l = length l.sources
