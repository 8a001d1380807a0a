use Rattle.pl_query.specs.Kept.{AreKept}
use Rattle.pl_query.proofs.cache.keep_all.Given as goal

abbrev pub invariant-loop-query : goal.invariant-loop-query
invariant-loop-query g l = AreKept (g.T.Tables.table l.tables) l.kept.items
