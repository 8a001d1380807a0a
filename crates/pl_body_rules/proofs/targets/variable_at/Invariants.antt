use Rattle.std.proofs.Common.{◌≡◌, length}
use Rattle.std.specs.Option.{option_or}
use Rattle.pl_body_rules.specs.Frames.{innermost, target_in}
use Rattle.pl_body_rules.proofs.targets.variable_at.Given as goal

abbrev pub invariant-loop-frames : goal.invariant-loop-frames
invariant-loop-frames l = innermost (target_in l.target) l.fn.frames ≡ option_or (innermost (target_in l.target) l.frames) l.found

abbrev pub decreases-loop-frames : goal.decreases-loop-frames
decreases-loop-frames l = length l.frames
