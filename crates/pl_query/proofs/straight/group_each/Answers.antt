use Rattle.std.proofs.Common.{◌∙◌, ap, subst}
use Rattle.pl_product.specs.Changed.{changed}
use Rattle.pl_query.proofs.Turns.{one_by_one}
use Rattle.pl_query.specs.Query.{grouping}
use Rattle.pl_query.specs.Rows.{in_turn}
use Rattle.pl_query.specs.Running.{Kept, kept, row_read}
use Rattle.pl_query.specs.Straight.{behind}
use Rattle.pl_value.specs.Answers.{Reads}
use Rattle.pl_value.specs.Frames.{Frame, rows_of}
use Rattle.pl_value.specs.Reading.{Reading}
use Rattle.pl_query.proofs.straight.group_each.Goals as goal

pub returns : goal.returns
returns g c =
    let row = row_read (grouping g.C.Caller.calls (g.S.Subqueries.sub c.args.sub.now) c.args.groups.now) c.args.count in
    subst (λ (q : Reading _ Kept). Reads {A = Kept} q (changed c.group_rows.result (kept c.group_rows.new.running)) c.group_rows.new.caller)
    (ap (λ (f : Frame). in_turn (behind row f) c.args.bundles.now (kept c.args.running.now) c.args.caller.now) (ap rows_of c.in_ok-longer.ensures)
    ∙ one_by_one row (rows_of c.args.stands.now) c.args.bundles.now (kept c.args.running.now) c.args.caller.now)
    c.group_rows.ensures
