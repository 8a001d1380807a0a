use Rattle.std.proofs.Common.{◌≡◌, length}
use Rattle.std.specs.Option.{option_or}
use Rattle.pl_body_rules.specs.Frames.{innermost, goal_in}
use Rattle.pl_body_rules.proofs.jumps.goal_of.Given as goal

abbrev pub invariant-loop-frames : goal.invariant-loop-frames
invariant-loop-frames l = innermost (goal_in l.label) l.fn.frames ≡ option_or (innermost (goal_in l.label) l.frames) l.found

abbrev pub decreases-loop-frames : goal.decreases-loop-frames
decreases-loop-frames l = length l.frames
