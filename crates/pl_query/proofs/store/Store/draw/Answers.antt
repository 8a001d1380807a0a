use Rattle.std.proofs.Common.{ap}
use Rattle.pl_query.proofs.KeptTables.{drawn_kept, read_of}
use Rattle.pl_query.proofs.store.Store.draw.Goals as goal

pub returns-in-Some : goal.returns-in-Some
returns-in-Some g c =
    drawn_kept (g.T.Tables.table c.self.inside.tables.now) (g.T.Tables.table c.args.self.now) c.self.inside.kept.items c.as_slice.result.now c.args.name c.in-Some.table.now.bundles c.of_kept.result c.self.invariant
    (ap g.T.Tables.table c.self.view_is) c.as_slice.ensures.value c.of_kept.ensures c.in-Some.ensures

pub returns-in-None : goal.returns-in-None
returns-in-None g c =
    read_of (g.T.Tables.table c.self.inside.tables.now) (g.T.Tables.table c.args.self.now) c.args.name c.read_table.result (ap g.T.Tables.table c.self.view_is) c.read_table.ensures
