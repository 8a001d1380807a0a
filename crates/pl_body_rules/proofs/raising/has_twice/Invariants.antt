use Rattle.std.proofs.Common.{◌≡◌, length}
use Rattle.pl_body_rules.specs.Raising.{has_twice}
use Rattle.pl_body_rules.proofs.raising.has_twice.Given as goal

abbrev pub invariant-loop-options : goal.invariant-loop-options
invariant-loop-options l = has_twice l.fn.options ≡ has_twice l.options

abbrev pub decreases-loop-options : goal.decreases-loop-options
decreases-loop-options l = length l.options
