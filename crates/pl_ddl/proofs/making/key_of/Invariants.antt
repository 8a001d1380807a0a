use Rattle.std.proofs.Common.{◌≡◌, ◌++◌, length, map}
use Rattle.pl_ddl.specs.Definition.{key_of}
use Rattle.pl_ddl.specs.Views.{rule_view}
use Rattle.pl_ddl.proofs.making.key_of.Given as goal

abbrev pub invariant-loop-rules : goal.invariant-loop-rules
invariant-loop-rules l =
    key_of (map rule_view l.fn.rules) ≡ l.key.items ++ key_of (map rule_view l.rules)

abbrev pub decreases-loop-rules : goal.decreases-loop-rules
decreases-loop-rules l = length l.rules
