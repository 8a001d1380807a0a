use Rattle.std.proofs.Common.{◌≡◌, length}
use Rattle.pl_names.specs.Names.{nearer, variables_within}
use Rattle.pl_names.proofs.names.variables_within.Given as goal

abbrev pub invariant-loop-frames : goal.invariant-loop-frames
invariant-loop-frames l = variables_within l.name 0 l.fn.frames ≡ nearer (variables_within l.name l.place l.frames) l.found

abbrev pub decreases-loop-frames : goal.decreases-loop-frames
decreases-loop-frames l = length l.frames
