use Rattle.std.proofs.Common.{◌≡◌, length}
use Rattle.pl_sql_parse.specs.Trees.{is_none, languages}
use Rattle.pl_sql_parse.proofs.trees.has_no_language.Given as goal

abbrev pub invariant-loop-clauses : goal.invariant-loop-clauses
invariant-loop-clauses l = is_none (languages l.fn.clauses) ≡ is_none (languages l.clauses)

abbrev pub decreases-loop-clauses : goal.decreases-loop-clauses
decreases-loop-clauses l = length l.clauses
