use Rattle.std.proofs.Common.{◌≡◌, length}
use Rattle.pl_names.specs.Names.{nearer_labelled, labelled}
use Rattle.pl_names.proofs.names.labelled.Given as goal

abbrev pub invariant-loop-frames : goal.invariant-loop-frames
invariant-loop-frames l = labelled l.qualifier l.name 0 l.fn.frames ≡ nearer_labelled (labelled l.qualifier l.name l.place l.frames) l.found

abbrev pub decreases-loop-frames : goal.decreases-loop-frames
decreases-loop-frames l = length l.frames
