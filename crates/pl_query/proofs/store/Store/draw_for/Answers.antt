use Rattle.std.proofs.Common.{ap, subst, IfOk, IfSome}
use Rattle.pl_query.specs.LeftOut.{IsFew}
use Rattle.pl_query.specs.Sources.{Tables}
use Rattle.pl_value.specs.Frames.{rows_of}
use Rattle.pl_query.proofs.store.Store.draw_for.Goals as goal

pub returns-in-None : goal.returns-in-None
returns-in-None g c =
    subst (λ (tables : Tables). IfOk c.read_few.result (λ few. IfSome few (IsFew g.row.C.Denot c.args.condition.now (rows_of c.args.around.now) (tables c.args.name))))
    (ap g.T.Tables.table c.self.view_is) c.read_few.ensures
