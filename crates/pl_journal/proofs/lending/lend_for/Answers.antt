use Rattle.std.proofs.Common.{sym, subst, List}
use Rattle.pl_journal.proofs.LeftOut.{left_out}
use Rattle.pl_journal.specs.ByKey.{AreFound, IsFound}
use Rattle.pl_journal.specs.Rows.{tables_of}
use Rattle.pl_query.specs.LeftOut.{LeavesOut}
use Rattle.pl_value.specs.Frames.{Row, rows_of}
use Rattle.pl_journal.proofs.lending.lend_for.Goals as goal

pub returns-in_ok-lend_found-in-Only : goal.returns-in_ok-lend_found-in-Only
returns-in_ok-lend_found-in-Only g c =
    let ts = c.args.journal.now.now.tables in
    let around = rows_of c.args.around.now in
    let by : IsFound c.args.name c.args.condition.now around ts c.in-Only.found =
    subst (λ found. AreFound c.args.name c.args.condition.now around ts found) c.in-Only.is c.in_ok-candidates_of.ensures in
    subst (λ (rows : List Row). LeavesOut g.row.C.Denot c.args.condition.now around (tables_of ts c.args.name) rows) (sym c.in_ok-lend_found-in-Only.ensures) (left_out g.row.C.Denot by)
