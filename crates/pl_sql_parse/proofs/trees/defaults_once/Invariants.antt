use Rattle.std.proofs.Common.{◌≡◌, length}
use Rattle.pl_sql_parse.specs.Trees.{defaults_once}
use Rattle.pl_sql_parse.proofs.trees.defaults_once.Given as goal

abbrev pub invariant-loop-rules : goal.invariant-loop-rules
invariant-loop-rules l = defaults_once l.fn.rules ≡ defaults_once l.rules

abbrev pub decreases-loop-rules : goal.decreases-loop-rules
decreases-loop-rules l = length l.rules
