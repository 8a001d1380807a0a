use Rattle.pl_query.specs.Kept.{AreKept}
use Rattle.pl_query.proofs.cache.keep_each.Given as goal

abbrev pub invariant-loop-join : goal.invariant-loop-join
invariant-loop-join g l = AreKept (g.T.Tables.table l.tables) l.kept.items
