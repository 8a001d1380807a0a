use Rattle.std.proofs.Common.{◌≡◌, length, map}
use Rattle.pl_names.specs.Names.{reach, nearer_one, item_within}
use Rattle.pl_names.proofs.names.item_within.Given as goal

abbrev pub invariant-loop-levels : goal.invariant-loop-levels
invariant-loop-levels l = item_within l.qualifier l.name (map reach l.fn.levels) ≡ nearer_one (item_within l.qualifier l.name (map reach l.levels)) l.found

abbrev pub decreases-loop-levels : goal.decreases-loop-levels
decreases-loop-levels l = length l.levels
