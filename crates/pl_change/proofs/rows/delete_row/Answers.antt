use Rattle.std.proofs.Common.{refl, Option}
use Rattle.pl_change.specs.Changes.{Progress, at_row, if_some, progress, shown_if, takes}
use Rattle.pl_change.specs.Running.{reached, setting_of}
use Rattle.pl_journal.proofs.OneTable.{only_same}
use Rattle.pl_value.specs.Frames.{Row}
use Rattle.pl_value.specs.Steps.{goes, stops}
use Rattle.pl_change.proofs.rows.delete_row.Goals as goal

pub returns-in-Ok-clause-reads : goal.returns-in-Ok-clause-reads
returns-in-Ok-clause-reads g c objects is =
    let s = setting_of g.C.Caller.calls (g.S.Subqueries.sub c.args.sub.now) objects c.args.command.now in
    goes {A = Option Row} {B = Progress} _ (at_row s (shown_if s c.args.condition.now) c.args.id c.args.journal.now.now.tables c.args.caller.now)
    (λ shown w. if_some s (takes s c.args.id) shown (progress c.args.journal.now.now.tables c.args.rows) w) c.in-Ok.shown c.show_row.new.caller
    (reached c.take_if.result c.take_if.new.journal.now.tables) c.show_row.new.caller refl (c.in-Ok.ensures.reads objects) (c.take_if.ensures.reads g.C.Caller.calls (g.S.Subqueries.sub c.args.sub.now) objects c.show_row.new.caller)

pub returns-in-Err-clause-reads : goal.returns-in-Err-clause-reads
returns-in-Err-clause-reads g c objects is =
    let s = setting_of g.C.Caller.calls (g.S.Subqueries.sub c.args.sub.now) objects c.args.command.now in
    stops {A = Option Row} {B = Progress} _ (at_row s (shown_if s c.args.condition.now) c.args.id c.args.journal.now.now.tables c.args.caller.now)
    (λ shown w. if_some s (takes s c.args.id) shown (progress c.args.journal.now.now.tables c.args.rows) w) c.in-Err.why c.show_row.new.caller refl (c.in-Err.ensures.reads objects)

pub returns-in-Err-clause-only : goal.returns-in-Err-clause-only
returns-in-Err-clause-only g c = only_same c.args.command.now.change.now.table c.args.journal.now
