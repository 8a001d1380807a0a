use Rattle.std.proofs.Common.{◌∙◌}
use Rattle.pl_change.proofs.Turns.{refused, wrote}
use Rattle.pl_change.specs.Running.{setting_of}
use Rattle.pl_change.proofs.writing.write_row.Goals as goal
use Rattle.pl_journal.proofs.OneTable.{only_same}

pub returns-in-Ok-clause-reads : goal.returns-in-Ok-clause-reads
returns-in-Ok-clause-reads g c objects is =
    wrote (setting_of g.C.Caller.calls (g.S.Subqueries.sub c.args.sub.now) objects c.args.command.now) c.args.id c.as_slice-in-Ok.result.now c.args.row c.args.journal.now.now c.write.new.journal.now.tables c.args.rows c.args.caller.now c.tell.new.caller c.tell.result
    (λ e more is. c.as_slice-in-Ok.ensures ∙ c.in_ok-copied.ensures e more (c.as_slice.ensures ∙ is)) is c.in-Ok.ensures.leads
    (c.tell.ensures objects c.write.new.journal.now.tables)

pub returns-in-Err-clause-reads : goal.returns-in-Err-clause-reads
returns-in-Err-clause-reads g c objects is =
    refused (setting_of g.C.Caller.calls (g.S.Subqueries.sub c.args.sub.now) objects c.args.command.now) (Unit {0}) c.args.id c.args.row c.args.journal.now.now c.write.new.journal.now.tables c.args.rows c.args.caller.now c.in-Err.why is c.in-Err.ensures.leads

pub returns-in_err-copied-clause-only : goal.returns-in_err-copied-clause-only
returns-in_err-copied-clause-only g c = only_same c.args.command.now.change.now.table c.args.journal.now
