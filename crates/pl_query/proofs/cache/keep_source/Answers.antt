use Rattle.std.proofs.Common.{sym, subst}
use Rattle.pl_query.specs.Kept.{AreKept}
use Rattle.pl_query.proofs.KeptTables.{one_more}
use Rattle.pl_query.proofs.cache.keep_source.Goals as goal

pub returns : goal.returns
returns g c =
    subst (AreKept (g.T.Tables.table c.args.tables.now)) (sym c.in_ok-push.ensures.items)
    (one_more (g.T.Tables.table c.args.tables.now) c.args.kept.items c.in_ok-table.table c.requires c.in_ok-table.ensures)
