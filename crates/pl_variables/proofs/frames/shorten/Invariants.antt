use Rattle.std.proofs.Common.{◌≡◌, length, take}
use Rattle.pl_variables.proofs.frames.shorten.Given as goal

abbrev pub invariant-loop-values : goal.invariant-loop-values
invariant-loop-values l = take l.count l.values ≡ take l.count l.fn.values

abbrev pub decreases-loop-values : goal.decreases-loop-values
decreases-loop-values l = length l.values
