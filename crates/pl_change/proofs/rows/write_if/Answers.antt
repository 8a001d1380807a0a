use Rattle.std.proofs.Common.{ap, sym, subst, Option, Some}
use Rattle.pl_change.specs.Changes.{Progress, if_some, progress, writes}
use Rattle.pl_change.specs.Running.{reached, setting_of}
use Rattle.pl_journal.proofs.OneTable.{only_same}
use Rattle.pl_value.specs.Answers.{Reads}
use Rattle.pl_value.specs.Frames.{Row}
use Rattle.pl_change.proofs.rows.write_if.Goals as goal

pub returns-in-Some-clause-reads : goal.returns-in-Some-clause-reads
returns-in-Some-clause-reads g c objects is =
    let s = setting_of g.C.Caller.calls (g.S.Subqueries.sub c.args.sub.now) objects c.args.command.now in
    subst (λ (o : Option Row). Reads {A = Progress} (if_some s (writes s (Some c.args.id)) o (progress c.args.journal.now.now.tables c.args.rows) c.args.caller.now) (reached c.write_row.result c.write_row.new.journal.now.tables) c.write_row.new.caller)
    (sym c.in-Some.is) (c.write_row.ensures.reads objects is)

pub returns-in-None-clause-only : goal.returns-in-None-clause-only
returns-in-None-clause-only g c = only_same c.args.command.now.change.now.table c.args.journal.now

pub returns-in-None-clause-reads : goal.returns-in-None-clause-reads
returns-in-None-clause-reads g c objects is =
    let s = setting_of g.C.Caller.calls (g.S.Subqueries.sub c.args.sub.now) objects c.args.command.now in
    ap (λ (o : Option Row). if_some s (writes s (Some c.args.id)) o (progress c.args.journal.now.now.tables c.args.rows) c.args.caller.now) c.in-None.is
