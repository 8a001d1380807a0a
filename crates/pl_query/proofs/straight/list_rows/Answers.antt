use Rattle.std.proofs.Common.{◌≡◌, ◌∙◌, ◌+◌, Err, [], List, drop, map, subst}
use Rattle.pl_query.proofs.Loops.{next, turn_at}
use Rattle.pl_query.specs.Rows.{in_turn, with_row}
use Rattle.pl_query.specs.Straight.{behind}
use Rattle.pl_value.specs.Answers.{Reads}
use Rattle.pl_value.specs.Frames.{Frame, Row, rows_of}
use Rattle.pl_value.specs.Meaning.{value}
use Rattle.pl_value.specs.Reading.{got}
use Rattle.pl_value.specs.Steps.{stops}
use Rattle.pl_query.proofs.straight.list_rows.Goals as goal

pub returns-in-Err : goal.returns-in-Err
returns-in-Err g c =
    let row = with_row (map (value g.C.Caller.calls (g.S.Subqueries.sub c.args.sub.now)) c.args.items.now) in
    let adds = behind row (rows_of c.args.stands.now.items) in
    let bundle : Frame = rows_of c.get.result.now in
    stops {A = List Row} {B = List Row} (in_turn adds c.args.bundles.now [] c.args.caller.now) (adds bundle c.loop-at.rows c.loop-at.caller)
    (λ done w. in_turn adds (drop (c.loop-at.at + 1) c.args.bundles.now) done w) c.in-Err.unsettled c.list_next.new.caller
    (turn_at adds c.args.bundles.now c.loop-at.at bundle c.get.ensures c.loop-at.rows c.loop-at.caller c.loop-at.invariant.reads)
    (subst (λ (f : Frame). Reads {A = List Row} (behind row f bundle c.loop-at.rows c.loop-at.caller) (Err c.in-Err.unsettled) c.list_next.new.caller)
    c.loop-at.invariant.stands c.in-Err.ensures.reads)

pub loop-at-preserved : goal.loop-at-preserved
loop-at-preserved g c =
    let row = with_row (map (value g.C.Caller.calls (g.S.Subqueries.sub c.args.sub.now)) c.args.items.now) in
    let adds = behind row (rows_of c.args.stands.now.items) in
    let bundle : Frame = rows_of c.get.result.now in
    record {
      reads = next (adds bundle c.loop-at.rows c.loop-at.caller)
          (λ done w. in_turn adds (drop (c.loop-at.at + 1) c.args.bundles.now) done w) c.in-Ok.more c.list_next.new.caller
          (turn_at adds c.args.bundles.now c.loop-at.at bundle c.get.ensures c.loop-at.rows c.loop-at.caller c.loop-at.invariant.reads)
          (subst (λ (f : Frame). behind row f bundle c.loop-at.rows c.loop-at.caller ≡ got c.in-Ok.more c.list_next.new.caller)
          c.loop-at.invariant.stands c.in-Ok.ensures.reads);
      stands = c.in-Ok.ensures.stands ∙ c.loop-at.invariant.stands;
    }
