use Rattle.std.proofs.Common.{◌∙◌, ◌++◌, ◌∷◌, [], ap, subst}
use Rattle.pl_change.proofs.Standing.{leaves, stands}
use Rattle.pl_change.proofs.Turns.{on_ok}
use Rattle.pl_change.specs.Changes.{Progress, adds, progress}
use Rattle.pl_change.specs.Running.{reached, setting_of}
use Rattle.pl_journal.proofs.OneTable.{only_same}
use Rattle.pl_value.specs.Answers.{Reads}
use Rattle.pl_value.specs.Frames.{Frame, Row, rows_of}
use Rattle.pl_change.proofs.commands.insert_one.Goals as goal

pub returns-in_err-push_row-clause-only : goal.returns-in_err-push_row-clause-only
returns-in_err-push_row-clause-only g c = only_same c.args.command.now.change.now.table c.args.journal.now

pub returns-clause-around : goal.returns-clause-around
returns-clause-around g c =
    on_ok c.add_row-added.result (c.pop_row.ensures ∙ leaves c.args.command.now.around.now c.args.frame.now.items c.push_row.new.frame.items (record { cells = c.as_slice.result }) c.requires.around c.in_ok-push_row.ensures)

pub returns-clause-reads : goal.returns-clause-reads
returns-clause-reads g c objects is =
    subst (λ (frame : Frame). Reads {A = Progress} (adds (setting_of g.C.Caller.calls (g.S.Subqueries.sub c.args.sub.now) objects c.args.command.now) c.args.values.now frame (progress c.args.journal.now.now.tables c.args.rows) c.args.caller.now) (reached c.add_row-added.result c.add_row-added.new.journal.now.tables) c.add_row-added.new.caller)
    (ap rows_of c.as_slice-2.ensures.value
    ∙ (stands c.args.command.now.around.now c.args.frame.now.items c.push_row.new.frame.items (record { cells = c.as_slice.result }) c.requires.around c.in_ok-push_row.ensures
    ∙ ap (λ (row : Row). rows_of c.args.command.now.around.now ++ row ∷ []) c.as_slice.ensures))
    (c.add_row-added.ensures.reads objects is)
