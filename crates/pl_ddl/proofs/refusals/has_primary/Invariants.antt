use Rattle.std.proofs.Common.{◌≡◌, length, map}
use Rattle.pl_ddl.specs.Refusals.{has_primary}
use Rattle.pl_ddl.specs.Views.{rule_view}
use Rattle.pl_ddl.proofs.refusals.has_primary.Given as goal

abbrev pub invariant-loop-rules : goal.invariant-loop-rules
invariant-loop-rules l =
    has_primary (map rule_view l.fn.rules) ≡ has_primary (map rule_view l.rules)

abbrev pub decreases-loop-rules : goal.decreases-loop-rules
decreases-loop-rules l = length l.rules
