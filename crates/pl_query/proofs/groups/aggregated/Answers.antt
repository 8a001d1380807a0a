use Rattle.std.proofs.Common.{refl, ◌+◌, drop, map}
use Rattle.pl_groups.specs.Tallies.{answer_at, shown}
use Rattle.pl_query.proofs.Loops.{mapped_here, next}
use Rattle.pl_query.specs.Rows.{in_turn, with_value}
use Rattle.pl_value.specs.Frames.{Row}
use Rattle.pl_value.specs.Steps.{stops}
use Rattle.pl_query.proofs.groups.aggregated.Goals as goal

pub returns-in-Err : goal.returns-in-Err
returns-in-Err g c left =
    stops {A = Row} {B = Row} _ (with_value (answer_at c.args.place (shown c.column-item.result)) c.loop-column.values left)
    (λ done w. in_turn with_value (map (λ c'. answer_at c.args.place (shown c')) (drop (c.loop-column.column-index + 1) c.args.columns.now)) done w) _ _
    (mapped_here (λ c'. answer_at c.args.place (shown c')) with_value c.args.columns.now c.loop-column.column-index c.column-item.result (answer_at c.args.place (shown c.column-item.result)) c.loop-column-test.true c.column-item.is refl c.loop-column.values left (c.loop-column.invariant left))
    (c.in-Err.ensures left)

pub loop-column-preserved : goal.loop-column-preserved
loop-column-preserved g c left =
    next (with_value (answer_at c.args.place (shown c.column-item.result)) c.loop-column.values left)
    (λ done w. in_turn with_value (map (λ c'. answer_at c.args.place (shown c')) (drop (c.loop-column.column-index + 1) c.args.columns.now)) done w) c.in-Ok.more left
    (mapped_here (λ c'. answer_at c.args.place (shown c')) with_value c.args.columns.now c.loop-column.column-index c.column-item.result (answer_at c.args.place (shown c.column-item.result)) c.loop-column-test.true c.column-item.is refl c.loop-column.values left (c.loop-column.invariant left))
    (c.in-Ok.ensures left)
