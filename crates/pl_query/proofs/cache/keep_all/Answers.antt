use Rattle.std.proofs.Common.{sym, subst}
use Rattle.pl_query.specs.Kept.{AreKept}
use Rattle.pl_query.proofs.cache.keep_all.Goals as goal

pub loop-query-init : goal.loop-query-init
loop-query-init g c = subst (AreKept (g.T.Tables.table c.args.tables.now)) (sym c.new-kept.ensures.items) tt
