use Rattle.std.proofs.Common.{◌∙◌, ap, sym, subst, refl, Option, Some}
use Rattle.std.specs.Prelude.{IsSome}
use Rattle.pl_change.proofs.Turns.{on_ok, row_gone, row_there, same_reads}
use Rattle.pl_change.specs.Changes.{at_row, shown_if}
use Rattle.pl_change.specs.Running.{setting_of}
use Rattle.pl_value.specs.Frames.{Row}
use Rattle.pl_change.proofs.rows.show_row.Goals as goal

pub returns-in-Some-clause-reads : goal.returns-in-Some-clause-reads
returns-in-Some-clause-reads g c objects =
    let s = setting_of g.C.Caller.calls (g.S.Subqueries.sub c.args.sub.now) objects c.args.command.now in
    let reads = shown_if s c.args.condition.now in
    same_reads {A = Option Row} (at_row s reads c.args.id c.args.journal.now.now.tables c.args.caller.now) (reads c.as_slice.result.now c.args.caller.now) c.show_if.result c.show_if.new.caller
    (row_there s reads c.args.id c.args.journal.now.now.tables c.as_slice.result.now c.args.caller.now (sym c.in-Some.ensures ∙ ap (λ (row : Row). let o : Option Row = Some row in o) (sym c.as_slice.ensures)))
    (c.show_if.ensures objects)

pub returns-in-Some-clause-there : goal.returns-in-Some-clause-there
returns-in-Some-clause-there g c = on_ok c.show_if.result (subst (λ (o : Option Row). IsSome o) c.in-Some.ensures refl)

pub returns-in-None-clause-reads : goal.returns-in-None-clause-reads
returns-in-None-clause-reads g c objects =
    let s = setting_of g.C.Caller.calls (g.S.Subqueries.sub c.args.sub.now) objects c.args.command.now in
    row_gone s (shown_if s c.args.condition.now) c.args.id c.args.journal.now.now.tables c.args.caller.now (sym c.in-None.ensures)
