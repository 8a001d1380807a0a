use Rattle.std.proofs.Common.{◌≡◌, length}
use Rattle.pl_sql_parse.specs.Trees.{has_default}
use Rattle.pl_sql_parse.proofs.trees.has_default.Given as goal

abbrev pub invariant-loop-rules : goal.invariant-loop-rules
invariant-loop-rules l = has_default l.fn.rules ≡ has_default l.rules

abbrev pub decreases-loop-rules : goal.decreases-loop-rules
decreases-loop-rules l = length l.rules
