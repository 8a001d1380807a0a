use Rattle.std.proofs.Common.{refl, Option, Some}
use Rattle.pl_change.specs.Changes.{Progress, at_row, if_some, progress, set_if, writes}
use Rattle.pl_change.specs.Running.{reached, setting_of}
use Rattle.pl_journal.proofs.OneTable.{only_same}
use Rattle.pl_value.specs.Frames.{Row}
use Rattle.pl_value.specs.Steps.{goes, stops}
use Rattle.pl_change.proofs.rows.update_row.Goals as goal

pub returns-in-Ok-clause-reads : goal.returns-in-Ok-clause-reads
returns-in-Ok-clause-reads g c objects is =
    let s = setting_of g.C.Caller.calls (g.S.Subqueries.sub c.args.sub.now) objects c.args.command.now in
    goes {A = Option Row} {B = Progress} _ (at_row s (set_if s c.args.columns.now c.args.values.now c.args.condition.now) c.args.id c.args.journal.now.now.tables c.args.caller.now)
    (λ row w. if_some s (writes s (Some c.args.id)) row (progress c.args.journal.now.now.tables c.args.rows) w) c.in-Ok.row c.set_row.new.caller
    (reached c.write_if.result c.write_if.new.journal.now.tables) c.write_if.new.caller refl (c.in-Ok.ensures.reads objects) (c.write_if.ensures.reads objects is)

pub returns-in-Err-clause-reads : goal.returns-in-Err-clause-reads
returns-in-Err-clause-reads g c objects is =
    let s = setting_of g.C.Caller.calls (g.S.Subqueries.sub c.args.sub.now) objects c.args.command.now in
    stops {A = Option Row} {B = Progress} _ (at_row s (set_if s c.args.columns.now c.args.values.now c.args.condition.now) c.args.id c.args.journal.now.now.tables c.args.caller.now)
    (λ row w. if_some s (writes s (Some c.args.id)) row (progress c.args.journal.now.now.tables c.args.rows) w) c.in-Err.why c.set_row.new.caller refl (c.in-Err.ensures.reads objects)

pub returns-in-Err-clause-only : goal.returns-in-Err-clause-only
returns-in-Err-clause-only g c = only_same c.args.command.now.change.now.table c.args.journal.now
