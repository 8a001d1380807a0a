use Rattle.std.proofs.Common.{◌≡◌, length}
use Rattle.pl_rules.specs.Rules.{least_failing, lesser}
use Rattle.pl_rules.proofs.rules.least_failing.Given as goal

abbrev pub invariant-loop-rules : goal.invariant-loop-rules
invariant-loop-rules l =
    least_failing l.fn.rules l.row ≡ lesser l.found (least_failing l.rules l.row)

abbrev pub decreases-loop-rules : goal.decreases-loop-rules
decreases-loop-rules l = length l.rules
