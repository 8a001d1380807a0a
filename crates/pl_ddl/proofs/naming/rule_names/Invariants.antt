use Rattle.std.proofs.Common.{◌≡◌, [], length, map}
use Rattle.pl_ddl.specs.Naming.{names_from}
use Rattle.pl_ddl.specs.Views.{rule_view}
use Rattle.pl_ddl.proofs.naming.rule_names.Given as goal

abbrev pub invariant-loop-rules : goal.invariant-loop-rules
invariant-loop-rules l =
    names_from l.table l.columns [] (map rule_view l.fn.rules)
    ≡ names_from l.table l.columns l.names (map rule_view l.rules)

abbrev pub decreases-loop-rules : goal.decreases-loop-rules
decreases-loop-rules l = length l.rules
