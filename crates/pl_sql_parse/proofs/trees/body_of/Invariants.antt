use Rattle.std.proofs.Common.{◌≡◌, length}
use Rattle.pl_sql_parse.specs.Trees.{bodies}
use Rattle.pl_sql_parse.proofs.trees.body_of.Given as goal

abbrev pub invariant-loop-clauses : goal.invariant-loop-clauses
invariant-loop-clauses l = bodies l.fn.clauses ≡ bodies l.clauses

abbrev pub decreases-loop-clauses : goal.decreases-loop-clauses
decreases-loop-clauses l = length l.clauses
