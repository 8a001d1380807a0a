use Rattle.std.proofs.Common.{ap, sym, subst, Option}
use Rattle.pl_change.specs.Changes.{Progress, if_some, progress, takes}
use Rattle.pl_change.specs.Running.{reached, setting_of}
use Rattle.pl_journal.proofs.OneTable.{only_same}
use Rattle.pl_value.specs.Answers.{Reads}
use Rattle.pl_value.specs.Frames.{Row}
use Rattle.pl_change.proofs.rows.take_if.Goals as goal

pub returns-in-Some-clause-reads : goal.returns-in-Some-clause-reads
returns-in-Some-clause-reads g c calls inner objects w =
    let s = setting_of calls inner objects c.args.command.now in
    subst (λ (o : Option Row). Reads {A = Progress} (if_some s (takes s c.args.id) o (progress c.args.journal.now.now.tables c.args.rows) w) (reached c.take_row.result c.take_row.new.journal.now.tables) w)
    (sym c.in-Some.is) (c.take_row.ensures.reads calls inner objects w)

pub returns-in-None-clause-only : goal.returns-in-None-clause-only
returns-in-None-clause-only g c = only_same c.args.command.now.change.now.table c.args.journal.now

pub returns-in-None-clause-reads : goal.returns-in-None-clause-reads
returns-in-None-clause-reads g c calls inner objects w =
    let s = setting_of calls inner objects c.args.command.now in
    ap (λ (o : Option Row). if_some s (takes s c.args.id) o (progress c.args.journal.now.now.tables c.args.rows) w) c.in-None.is
