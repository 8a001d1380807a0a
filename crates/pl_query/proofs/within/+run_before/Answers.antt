use Rattle.std.proofs.Common.{sym, arith}
use Rattle.pl_value.specs.Frames.{rows_of}
use Rattle.pl_query.proofs.Before.{is_absent, is_found, is_none}
use Rattle.pl_query.proofs.within.+run_before.Goals as goal

pub returns-then-at-limit : goal.returns-then-at-limit
returns-then-at-limit g t c = is_none g.C.Caller.calls c.args.queries.now (g.T.Lender.table c.args.tables.now) c.args.limit c.args.at (rows_of c.args.frame.now) c.args.caller.now c.new.result c.if-at-limit.true c.new.ensures

pub returns-in-Some : goal.returns-in-Some
returns-in-Some g t c = is_found g.C.Caller.calls c.args.queries.now (g.T.Lender.table c.args.tables.now) c.args.limit c.args.at (rows_of c.args.frame.now) c.args.caller.now c.query_rows.new.caller c.in-Some.query.now c.query_rows.result
    (omega (arith, c.if-at-limit.false)) (sym c.in-Some.ensures) c.query_rows.ensures

pub returns-in-None : goal.returns-in-None
returns-in-None g t c = is_absent g.C.Caller.calls c.args.queries.now (g.T.Lender.table c.args.tables.now) c.args.limit c.args.at (rows_of c.args.frame.now) c.args.caller.now c.new-in-None.result
    (omega (arith, c.if-at-limit.false)) (sym c.in-None.ensures) c.new-in-None.ensures
