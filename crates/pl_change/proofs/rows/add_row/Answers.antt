use Rattle.std.proofs.Common.{refl, [], map, None}
use Rattle.pl_change.specs.Changes.{Progress, progress, writes}
use Rattle.pl_change.specs.Running.{reached, setting_of}
use Rattle.pl_journal.proofs.OneTable.{only_same}
use Rattle.pl_value.specs.Frames.{Row, rows_of}
use Rattle.pl_value.specs.Meaning.{value, values}
use Rattle.pl_value.specs.Steps.{goes, stops}
use Rattle.pl_change.proofs.rows.add_row.Goals as goal

pub returns-in-Ok-clause-reads : goal.returns-in-Ok-clause-reads
returns-in-Ok-clause-reads g c objects is =
    goes {A = Row} {B = Progress} _ (values (map (value g.C.Caller.calls (g.S.Subqueries.sub c.args.sub.now)) c.args.parts.now) [] (rows_of c.args.frame.now) c.args.caller.now)
    (λ row w. writes (setting_of g.C.Caller.calls (g.S.Subqueries.sub c.args.sub.now) objects c.args.command.now) None row (progress c.args.journal.now.now.tables c.args.rows) w) c.in-Ok.row c.values.new.caller
    (reached c.write_row.result c.write_row.new.journal.now.tables) c.write_row.new.caller refl c.in-Ok.ensures (c.write_row.ensures.reads objects is)

pub returns-in-Err-clause-reads : goal.returns-in-Err-clause-reads
returns-in-Err-clause-reads g c objects is =
    stops {A = Row} {B = Progress} _ (values (map (value g.C.Caller.calls (g.S.Subqueries.sub c.args.sub.now)) c.args.parts.now) [] (rows_of c.args.frame.now) c.args.caller.now)
    (λ row w. writes (setting_of g.C.Caller.calls (g.S.Subqueries.sub c.args.sub.now) objects c.args.command.now) None row (progress c.args.journal.now.now.tables c.args.rows) w) c.in-Err.why c.values.new.caller refl c.in-Err.ensures

pub returns-in-Err-clause-only : goal.returns-in-Err-clause-only
returns-in-Err-clause-only g c = only_same c.args.command.now.change.now.table c.args.journal.now
