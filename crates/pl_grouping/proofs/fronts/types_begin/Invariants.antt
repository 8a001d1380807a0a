use Rattle.std.proofs.Common.{◌≡◌, length}
use Rattle.pl_grouping.specs.Fronts.{types_begin}
use Rattle.pl_grouping.proofs.fronts.types_begin.Given as goal

abbrev pub invariant-loop-key : goal.invariant-loop-key
invariant-loop-key l = types_begin l.fn.key l.fn.types ≡ types_begin l.key l.types

abbrev pub decreases-loop-key : goal.decreases-loop-key
decreases-loop-key l = length l.key
