use Rattle.std.proofs.Common.{◌∙◌, ap, subst, List, [], map}
use Rattle.pl_query.proofs.Turns.{one_by_one}
use Rattle.pl_query.specs.Rows.{in_turn, with_row}
use Rattle.pl_query.specs.Straight.{behind}
use Rattle.pl_value.specs.Answers.{Reads}
use Rattle.pl_value.specs.Frames.{Frame, Row, rows_of}
use Rattle.pl_value.specs.Meaning.{value}
use Rattle.pl_value.specs.Reading.{Reading}
use Rattle.pl_query.proofs.straight.list_straight.Goals as goal

pub returns : goal.returns
returns g c =
    let row = with_row (map (value g.C.Caller.calls (g.S.Subqueries.sub c.args.sub.now)) c.args.items.now) in
    subst (λ (q : Reading _ (List Row)). Reads {A = List Row} q c.list_rows.result c.list_rows.new.caller)
    (ap (λ (f : Frame). in_turn (behind row f) c.args.bundles.now [] c.args.caller.now) (ap rows_of c.in_ok-longer.ensures)
    ∙ one_by_one row (rows_of c.args.stands.now) c.args.bundles.now [] c.args.caller.now)
    c.list_rows.ensures
