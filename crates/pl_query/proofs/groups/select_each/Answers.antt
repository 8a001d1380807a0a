use Rattle.std.proofs.Common.{◌+◌, List, drop, map}
use Rattle.pl_query.proofs.Loops.{next, turn_at}
use Rattle.pl_query.specs.Rows.{in_turn, with_row}
use Rattle.pl_value.specs.Frames.{Row, rows_of}
use Rattle.pl_value.specs.Meaning.{value}
use Rattle.pl_value.specs.Steps.{stops}
use Rattle.pl_query.proofs.groups.select_each.Goals as goal

pub returns-in-Err : goal.returns-in-Err
returns-in-Err g c =
    let adds = with_row (map (value g.C.Caller.calls (g.S.Subqueries.sub c.args.sub.now)) c.args.items.now) in
    stops {A = List Row} {B = List Row} _ (adds (rows_of c.get.result.now) c.loop-at.rows c.loop-at.caller)
    (λ done w. in_turn adds (drop (c.loop-at.at + 1) c.args.frames.now) done w) _ _
    (turn_at adds c.args.frames.now c.loop-at.at (rows_of c.get.result.now) c.get.ensures c.loop-at.rows c.loop-at.caller c.loop-at.invariant)
    c.in-Err.ensures

pub loop-at-preserved : goal.loop-at-preserved
loop-at-preserved g c =
    let adds = with_row (map (value g.C.Caller.calls (g.S.Subqueries.sub c.args.sub.now)) c.args.items.now) in
    next (adds (rows_of c.get.result.now) c.loop-at.rows c.loop-at.caller)
    (λ done w. in_turn adds (drop (c.loop-at.at + 1) c.args.frames.now) done w) c.in-Ok.more c.add_row.new.caller
    (turn_at adds c.args.frames.now c.loop-at.at (rows_of c.get.result.now) c.get.ensures c.loop-at.rows c.loop-at.caller c.loop-at.invariant)
    c.in-Ok.ensures
