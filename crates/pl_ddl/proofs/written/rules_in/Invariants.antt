use Rattle.std.proofs.Common.{◌≡◌, ◌++◌, length, map}
use Rattle.pl_ddl.specs.Views.{rule_view}
use Rattle.pl_ddl.specs.Written.{rules_in}
use Rattle.pl_ddl.proofs.written.rules_in.Given as goal

abbrev pub invariant-loop-elements : goal.invariant-loop-elements
invariant-loop-elements l =
    rules_in l.fn.elements ≡ map rule_view l.rules.items ++ rules_in l.elements

abbrev pub decreases-loop-elements : goal.decreases-loop-elements
decreases-loop-elements l = length l.elements
