use Rattle.std.proofs.Common.{◌≡◌, length, map}
use Rattle.pl_ddl.specs.Refusals.{any_foreign}
use Rattle.pl_ddl.specs.Views.{rule_view}
use Rattle.pl_ddl.proofs.refusals.any_foreign.Given as goal

abbrev pub invariant-loop-rules : goal.invariant-loop-rules
invariant-loop-rules l =
    any_foreign (map rule_view l.fn.rules) ≡ any_foreign (map rule_view l.rules)

abbrev pub decreases-loop-rules : goal.decreases-loop-rules
decreases-loop-rules l = length l.rules
