use Rattle.std.proofs.Common.{◌≡◌, length, map}
use Rattle.std.specs.Option.{option_map}
use Rattle.pl_names.specs.Names.{reach}
use Rattle.pl_names.specs.Sources.{level_within, nearer_level}
use Rattle.pl_names.proofs.sources.level_within.Given as goal

abbrev pub invariant-loop-levels : goal.invariant-loop-levels
invariant-loop-levels l = level_within l.name (map reach l.fn.levels) ≡ nearer_level (level_within l.name (map reach l.levels)) (option_map reach l.found)

abbrev pub decreases-loop-levels : goal.decreases-loop-levels
decreases-loop-levels l = length l.levels
