use Rattle.std.proofs.Common.{◌∙◌, ap, sym, List}
use Rattle.pl_change.specs.Changes.{progress}
use Rattle.pl_journal.proofs.OneTable.{only_same}
use Rattle.pl_tables.specs.Named.{on_table}
use Rattle.pl_tables.specs.Rows.{removed}
use Rattle.pl_journal.specs.pl_undo.Database.{Database}
use Rattle.pl_value.specs.Frames.{Row}
use Rattle.pl_value.specs.Reading.{got}
use Rattle.pl_change.proofs.rows.take_row.Goals as goal

pub returns-in_err-push-clause-only : goal.returns-in_err-push-clause-only
returns-in_err-push-clause-only g c = only_same c.args.command.now.change.now.table c.args.journal.now

pub returns-clause-reads : goal.returns-clause-reads
returns-clause-reads g c calls inner objects w =
    ap (λ (made : List Row). got (progress (on_table c.args.command.now.change.now.table (removed c.args.id) c.args.journal.now.now.tables) made) w) (sym c.in_ok-push.ensures)
    ∙ ap (λ (d : Database). got (progress d.tables c.push.new.self) w) (sym c.in_ok-remove.ensures.ok)
