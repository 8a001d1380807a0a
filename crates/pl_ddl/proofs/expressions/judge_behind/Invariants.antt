use Rattle.std.proofs.Common.{◌≡◌, length}
use Rattle.pl_ddl.specs.Expressions.{behind_failure}
use Rattle.pl_ddl.proofs.expressions.judge_behind.Given as goal

abbrev pub invariant-loop-rules : goal.invariant-loop-rules
invariant-loop-rules l =
    behind_failure l.scope l.ty l.fn.rules ≡ behind_failure l.scope l.ty l.rules

abbrev pub decreases-loop-rules : goal.decreases-loop-rules
decreases-loop-rules l = length l.rules
