use Rattle.std.proofs.Common.{sym, subst, []}
use Rattle.pl_change.specs.Changes.{Progress, progress}
use Rattle.pl_change.specs.Running.{does_from, reached, rows_over, setting_of}
use Rattle.pl_targets.specs.declared.change.RWhat.{RWhat}
use Rattle.pl_value.specs.Answers.{Reads}
use Rattle.pl_value.specs.Frames.{rows_of}
use Rattle.pl_change.proofs.commands.run.Goals as goal

pub returns-in-Insert-clause-reads : goal.returns-in-Insert-clause-reads
returns-in-Insert-clause-reads g c objects is =
    subst (λ (what : RWhat). Reads {A = Progress} (does_from (rows_over g.C.Caller.calls c.args.command.now c.args.journal.now.now) (setting_of g.C.Caller.calls (g.S.Subqueries.sub c.args.sub.now) objects c.args.command.now) (rows_of c.args.outer.now) what (progress c.args.journal.now.now.tables []) c.args.caller.now) (reached c.insert.result c.insert.new.journal.now.tables) c.insert.new.caller)
    (sym c.in-Insert.is) (c.insert.ensures.reads objects is)

pub returns-in-Update-clause-reads : goal.returns-in-Update-clause-reads
returns-in-Update-clause-reads g c objects is =
    subst (λ (what : RWhat). Reads {A = Progress} (does_from (rows_over g.C.Caller.calls c.args.command.now c.args.journal.now.now) (setting_of g.C.Caller.calls (g.S.Subqueries.sub c.args.sub.now) objects c.args.command.now) (rows_of c.args.outer.now) what (progress c.args.journal.now.now.tables []) c.args.caller.now) (reached c.update.result c.update.new.journal.now.tables) c.update.new.caller)
    (sym c.in-Update.is) (c.update.ensures.reads objects is)

pub returns-in-Delete-clause-reads : goal.returns-in-Delete-clause-reads
returns-in-Delete-clause-reads g c objects is =
    subst (λ (what : RWhat). Reads {A = Progress} (does_from (rows_over g.C.Caller.calls c.args.command.now c.args.journal.now.now) (setting_of g.C.Caller.calls (g.S.Subqueries.sub c.args.sub.now) objects c.args.command.now) (rows_of c.args.outer.now) what (progress c.args.journal.now.now.tables []) c.args.caller.now) (reached c.delete.result c.delete.new.journal.now.tables) c.delete.new.caller)
    (sym c.in-Delete.is) (c.delete.ensures.reads objects is)
