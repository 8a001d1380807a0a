use Rattle.std.proofs.Common.{sym, subst, List}
use Rattle.pl_catalog.specs.declared.object.Column.{Column}
use Rattle.pl_journal.proofs.Noted.{left_by}
use Rattle.pl_journal.specs.ByKey.{AreAsked}
use Rattle.pl_value.specs.Frames.{Row, rows_of}
use Rattle.pl_journal.proofs.by_key.left_in.Goals as goal

pub returns : goal.returns
returns c =
    let a = rows_of c.args.around.now in
    left_by c.found_among.result c.args.table.now c.args.rows.now.current a c.args.condition.now c.as_slice-3.result.now
    (subst (λ (row : Row). AreAsked a c.args.table.now.columns c.args.condition.now row) (sym c.as_slice-3.ensures.value)
    (subst (λ (columns : List Column). AreAsked a columns c.args.condition.now c.in_ok-asked.asked.items) c.as_slice.ensures c.in_ok-asked.ensures))
    c.found_among.ensures
