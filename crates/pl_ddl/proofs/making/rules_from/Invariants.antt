use Rattle.std.proofs.Common.{◌≡◌, [], length, map}
use Rattle.pl_ddl.specs.Definition.{rules_from}
use Rattle.pl_ddl.specs.Views.{rule_view}
use Rattle.pl_ddl.proofs.making.rules_from.Given as goal

abbrev pub invariant-loop-rules : goal.invariant-loop-rules
invariant-loop-rules l =
    rules_from l.scope l.columns [] (map rule_view l.fn.rules) l.fn.names
    ≡ rules_from l.scope l.columns l.made (map rule_view l.rules) l.names

abbrev pub decreases-loop-rules : goal.decreases-loop-rules
decreases-loop-rules l = length l.rules
