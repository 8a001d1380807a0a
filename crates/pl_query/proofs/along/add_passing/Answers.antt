use Rattle.std.proofs.Common.{◌≡◌, ◌∙◌, ◌+◌, Err, drop, subst, ℕ}
use Rattle.pl_product.specs.Product.{condition}
use Rattle.pl_query.proofs.Loops.{next, turn_at}
use Rattle.pl_query.specs.Along.{along}
use Rattle.pl_query.specs.Rows.{in_turn}
use Rattle.pl_query.specs.Running.{Kept, kept}
use Rattle.pl_value.specs.Answers.{Reads}
use Rattle.pl_value.specs.Frames.{Frame, rows_of}
use Rattle.pl_value.specs.Reading.{got}
use Rattle.pl_value.specs.Steps.{stops}
use Rattle.pl_query.proofs.along.add_passing.Goals as goal

pub returns-in-Err : goal.returns-in-Err
returns-in-Err g c =
    let p = condition g.C.Caller.calls (g.S.Subqueries.sub c.args.sub.now) c.args.filter in
    let adds = along p c.args.pairs.now c.args.count (rows_of c.args.stands.now.items) in
    let bundle : Frame = rows_of c.get.result.now in
    stops {A = ℕ × Kept} {B = ℕ × Kept} (in_turn adds c.args.bundles.now (0, kept c.args.running.now) c.args.caller.now) (adds bundle (c.loop-at.passed, kept c.loop-at.running) c.loop-at.caller)
    (λ s w. in_turn adds (drop (c.loop-at.at + 1) c.args.bundles.now) s w) c.in-Err.unsettled c.add_next.new.caller
    (turn_at adds c.args.bundles.now c.loop-at.at bundle c.get.ensures (c.loop-at.passed, kept c.loop-at.running) c.loop-at.caller c.loop-at.invariant.reads)
    (subst (λ (f : Frame). Reads {A = ℕ × Kept} (along p c.args.pairs.now c.args.count f bundle (c.loop-at.passed, kept c.loop-at.running) c.loop-at.caller) (Err c.in-Err.unsettled) c.add_next.new.caller)
    c.loop-at.invariant.stands c.in-Err.ensures.reads)

pub loop-at-preserved : goal.loop-at-preserved
loop-at-preserved g c =
    let p = condition g.C.Caller.calls (g.S.Subqueries.sub c.args.sub.now) c.args.filter in
    let adds = along p c.args.pairs.now c.args.count (rows_of c.args.stands.now.items) in
    let bundle : Frame = rows_of c.get.result.now in
    record {
      reads = next (adds bundle (c.loop-at.passed, kept c.loop-at.running) c.loop-at.caller)
          (λ s w. in_turn adds (drop (c.loop-at.at + 1) c.args.bundles.now) s w) (c.in-Ok.now, kept c.add_next.new.running) c.add_next.new.caller
          (turn_at adds c.args.bundles.now c.loop-at.at bundle c.get.ensures (c.loop-at.passed, kept c.loop-at.running) c.loop-at.caller c.loop-at.invariant.reads)
          (subst (λ (f : Frame). along p c.args.pairs.now c.args.count f bundle (c.loop-at.passed, kept c.loop-at.running) c.loop-at.caller ≡ got (c.in-Ok.now, kept c.add_next.new.running) c.add_next.new.caller)
          c.loop-at.invariant.stands c.in-Ok.ensures.reads);
      stands = c.in-Ok.ensures.stands ∙ c.loop-at.invariant.stands;
      long = c.in-Ok.ensures.long ∙ c.loop-at.invariant.long;
    }
