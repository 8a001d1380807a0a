use Rattle.std.proofs.Common.{◌≡◌, length, map}
use Rattle.pl_ddl.specs.Refusals.{keys_refusal}
use Rattle.pl_ddl.specs.Views.{rule_view}
use Rattle.pl_ddl.proofs.refusals.keys_refusal.Given as goal

abbrev pub invariant-loop-rules : goal.invariant-loop-rules
invariant-loop-rules l =
    keys_refusal l.names (map rule_view l.fn.rules)
    ≡ keys_refusal l.names (map rule_view l.rules)

abbrev pub decreases-loop-rules : goal.decreases-loop-rules
decreases-loop-rules l = length l.rules
