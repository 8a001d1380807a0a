use Rattle.std.proofs.Common.{◌≡◌, ◌∙◌, ◌+◌, Err, drop, subst}
use Rattle.pl_query.proofs.Loops.{next, turn_at}
use Rattle.pl_query.specs.Query.{grouping}
use Rattle.pl_query.specs.Rows.{in_turn}
use Rattle.pl_query.specs.Running.{Kept, kept, row_read}
use Rattle.pl_query.specs.Straight.{behind}
use Rattle.pl_value.specs.Answers.{Reads}
use Rattle.pl_value.specs.Frames.{Frame, rows_of}
use Rattle.pl_value.specs.Reading.{got}
use Rattle.pl_value.specs.Steps.{stops}
use Rattle.pl_query.proofs.straight.group_rows.Goals as goal

pub returns-in-Err : goal.returns-in-Err
returns-in-Err g c =
    let row = row_read (grouping g.C.Caller.calls (g.S.Subqueries.sub c.args.sub.now) c.args.groups.now) c.args.count in
    let adds = behind row (rows_of c.args.stands.now.items) in
    let bundle : Frame = rows_of c.get.result.now in
    stops {A = Kept} {B = Kept} (in_turn adds c.args.bundles.now (kept c.args.running.now) c.args.caller.now) (adds bundle (kept c.loop-at.running) c.loop-at.caller)
    (λ done w. in_turn adds (drop (c.loop-at.at + 1) c.args.bundles.now) done w) c.in-Err.unsettled c.group_next.new.caller
    (turn_at adds c.args.bundles.now c.loop-at.at bundle c.get.ensures (kept c.loop-at.running) c.loop-at.caller c.loop-at.invariant.reads)
    (subst (λ (f : Frame). Reads {A = Kept} (behind row f bundle (kept c.loop-at.running) c.loop-at.caller) (Err c.in-Err.unsettled) c.group_next.new.caller)
    c.loop-at.invariant.stands c.in-Err.ensures.reads)

pub loop-at-preserved : goal.loop-at-preserved
loop-at-preserved g c =
    let row = row_read (grouping g.C.Caller.calls (g.S.Subqueries.sub c.args.sub.now) c.args.groups.now) c.args.count in
    let adds = behind row (rows_of c.args.stands.now.items) in
    let bundle : Frame = rows_of c.get.result.now in
    record {
      reads = next (adds bundle (kept c.loop-at.running) c.loop-at.caller)
          (λ done w. in_turn adds (drop (c.loop-at.at + 1) c.args.bundles.now) done w) (kept c.group_next.new.running) c.group_next.new.caller
          (turn_at adds c.args.bundles.now c.loop-at.at bundle c.get.ensures (kept c.loop-at.running) c.loop-at.caller c.loop-at.invariant.reads)
          (subst (λ (f : Frame). behind row f bundle (kept c.loop-at.running) c.loop-at.caller ≡ got (kept c.group_next.new.running) c.group_next.new.caller)
          c.loop-at.invariant.stands c.in-Ok.ensures.reads);
      stands = c.in-Ok.ensures.stands ∙ c.loop-at.invariant.stands;
      long = c.in-Ok.ensures.columns ∙ c.loop-at.invariant.long;
    }
