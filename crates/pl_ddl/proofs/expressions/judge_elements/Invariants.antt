use Rattle.std.proofs.Common.{◌≡◌, length}
use Rattle.pl_ddl.specs.Expressions.{elements_failure}
use Rattle.pl_ddl.proofs.expressions.judge_elements.Given as goal

abbrev pub invariant-loop-elements : goal.invariant-loop-elements
invariant-loop-elements l =
    elements_failure l.scope l.fn.elements ≡ elements_failure l.scope l.elements

abbrev pub decreases-loop-elements : goal.decreases-loop-elements
decreases-loop-elements l = length l.elements
