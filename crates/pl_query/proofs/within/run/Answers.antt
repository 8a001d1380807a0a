use Rattle.std.proofs.Common.{ap, subst, List, length}
use Rattle.pl_query.specs.Query.{rows_before}
use Rattle.pl_query.specs.Sources.{Tables}
use Rattle.pl_value.specs.Answers.{Reads}
use Rattle.pl_value.specs.Frames.{Row, rows_of}
use Rattle.pl_query.proofs.within.run.Goals as goal

pub returns : goal.returns
returns g c =
    subst (λ (ts : Tables). Reads {A = List Row} (rows_before g.C.Caller.calls c.args.queries.now ts (length c.args.queries.now) c.args.at (rows_of c.args.frame.now) c.args.caller.now) c.run_before.result c.run_before.new.caller)
    (ap g.T.Tables.table c.in_ok-store.ensures) c.run_before.ensures
