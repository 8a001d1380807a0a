use Rattle.std.proofs.Common.{arith, length}
use Rattle.pl_inside.proofs.Lists.{next_alike, none_alike}
use Rattle.pl_inside.proofs.Queries.{query_alike, rows_alike}
use Rattle.pl_query.specs.Query.{query}
use Rattle.pl_inside.proofs.reading.tables_read.Goals as goal

pub loop-query-init : goal.loop-query-init
loop-query-init g c one other agree calls sub all = all

pub loop-query-preserved : goal.loop-query-preserved
loop-query-preserved g c one other agree calls sub rest =
    let here = c.in_ok-add_joins.ensures one other agree in
    c.loop-query.invariant one other here.0 calls sub
    (next_alike (query calls sub one) (query calls sub other) c.args.queries.now c.loop-query.query-index c.query-item.result c.loop-query-test.true c.query-item.is
    (query_alike calls one other sub c.query-item.result c.as_slice.result.now c.as_slice.ensures (λ outer. here.1 calls sub outer)) rest)

pub returns : goal.returns
returns g c calls one other agree =
    rows_alike calls one other c.args.queries.now (λ sub. c.loop-query.invariant one other agree calls sub
    (none_alike (query calls sub one) (query calls sub other) c.args.queries.now c.loop-query.query-index (omega (arith, c.loop-query-test.false)))) (length c.args.queries.now)
