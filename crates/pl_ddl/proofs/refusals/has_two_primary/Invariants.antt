use Rattle.std.proofs.Common.{◌≡◌, length, map}
use Rattle.pl_ddl.specs.Refusals.{has_two_primary}
use Rattle.pl_ddl.specs.Views.{rule_view}
use Rattle.pl_ddl.proofs.refusals.has_two_primary.Given as goal

abbrev pub invariant-loop-rules : goal.invariant-loop-rules
invariant-loop-rules l =
    has_two_primary (map rule_view l.fn.rules) ≡ has_two_primary (map rule_view l.rules)

abbrev pub decreases-loop-rules : goal.decreases-loop-rules
decreases-loop-rules l = length l.rules
