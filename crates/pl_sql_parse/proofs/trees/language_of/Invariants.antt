use Rattle.std.proofs.Common.{◌≡◌, length}
use Rattle.pl_sql_parse.specs.Trees.{languages}
use Rattle.pl_sql_parse.proofs.trees.language_of.Given as goal

abbrev pub invariant-loop-clauses : goal.invariant-loop-clauses
invariant-loop-clauses l = languages l.fn.clauses ≡ languages l.clauses

abbrev pub decreases-loop-clauses : goal.decreases-loop-clauses
decreases-loop-clauses l = length l.clauses
