use Rattle.std.proofs.Common.{◌≡◌, map, arith}
use Rattle.pl_inside.proofs.Names.{covers_so}
use Rattle.pl_inside.proofs.Lists.{next_alike, none_alike}
use Rattle.pl_inside.proofs.Queries.{bracket_alike, function_alike, inner_alike, item_alike, table_alike}
use Rattle.pl_query.specs.Sources.{draw, item}
use Rattle.pl_value.specs.Frames.{Frame}
use Rattle.pl_value.specs.Meaning.{Calls, Sub}
use Rattle.pl_inside.proofs.reading.+reading.Goals as goal

pub add_source-returns-in-Table : goal.add_source-returns-in-Table
add_source-returns-in-Table g t c =
    covers_so c.args.names.now.items c.add_name.new.names.items (λ one other. one c.in-Table.name ≡ other c.in-Table.name)
    (λ one other. (calls : Calls g.row.C.Denot) (sub : Sub g.row.C.Denot) (outer : Frame) → draw calls sub one outer c.args.source.now ≡ draw calls sub other outer c.args.source.now) c.add_name.result
    (λ one other same calls sub outer. table_alike calls sub one other outer c.args.source.now c.in-Table.name c.in-Table.is same) c.add_name.ensures

pub add_source-returns-in-Query : goal.add_source-returns-in-Query
add_source-returns-in-Query g t c one other agree = (agree, λ calls sub outer. inner_alike calls sub one other outer c.args.source.now _ c.in-Query.is)

pub add_source-returns-in-Value : goal.add_source-returns-in-Value
add_source-returns-in-Value g t c one other agree = (agree, λ calls sub outer. function_alike calls sub one other outer c.args.source.now _ c.in-Value.is)

pub add_source-returns-in-Joined : goal.add_source-returns-in-Joined
add_source-returns-in-Joined g t c =
    covers_so c.args.names.now.items c.add_joins.new.names.items
    (λ one other. (calls : Calls g.row.C.Denot) (sub : Sub g.row.C.Denot) (outer : Frame) → map (item calls sub one outer) c.as_slice.result.now ≡ map (item calls sub other outer) c.as_slice.result.now)
    (λ one other. (calls : Calls g.row.C.Denot) (sub : Sub g.row.C.Denot) (outer : Frame) → draw calls sub one outer c.args.source.now ≡ draw calls sub other outer c.args.source.now) c.add_joins.result
    (λ one other same calls sub outer. bracket_alike calls sub one other outer c.args.source.now c.in-Joined.joins c.as_slice.result.now c.in-Joined.is c.as_slice.ensures (same calls sub outer)) c.add_joins.ensures

pub add_joins-loop-join-init : goal.add_joins-loop-join-init
add_joins-loop-join-init g t c one other agree = (agree, λ calls sub outer all. all)

pub add_joins-loop-join-preserved : goal.add_joins-loop-join-preserved
add_joins-loop-join-preserved g t c one other agree =
    let here = c.in_ok-add_source.ensures one other agree in
    let was = c.loop-join.invariant one other here.0 in (
      was.0,
      λ calls sub outer rest. was.1 calls sub outer
          (next_alike (item calls sub one outer) (item calls sub other outer) c.args.joins.now c.loop-join.join-index c.join-item.result c.loop-join-test.true c.join-item.is
          (item_alike calls sub one other outer c.join-item.result (here.1 calls sub outer)) rest),
    )

pub add_joins-returns : goal.add_joins-returns
add_joins-returns g t c one other agree =
    let was = c.loop-join.invariant one other agree in (
      was.0,
      λ calls sub outer. was.1 calls sub outer
          (none_alike (item calls sub one outer) (item calls sub other outer) c.args.joins.now c.loop-join.join-index (omega (arith, c.loop-join-test.false))),
    )
