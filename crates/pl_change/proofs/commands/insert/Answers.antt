use Rattle.std.proofs.Common.{sym, subst, List, []}
use Rattle.pl_change.specs.Changes.{Progress, adds_values, progress}
use Rattle.pl_change.specs.Running.{adds_from, inserts_from, reached, rows_over, setting_of}
use Rattle.pl_inside.specs.pl_query.Rows.{in_turn}
use Rattle.pl_targets.specs.declared.change.RRow.{RRow}
use Rattle.pl_targets.specs.declared.change.RRows.{RRows}
use Rattle.pl_resolved.specs.declared.expression.RExpr.{RExpr}
use Rattle.pl_value.specs.Answers.{Reads}
use Rattle.pl_value.specs.Frames.{rows_of}
use Rattle.pl_change.proofs.commands.insert.Goals as goal

pub returns-in-Values-clause-reads : goal.returns-in-Values-clause-reads
returns-in-Values-clause-reads g c objects is =
    let s = setting_of g.C.Caller.calls (g.S.Subqueries.sub c.args.sub.now) objects c.args.command.now in
    let source = rows_over g.C.Caller.calls c.args.command.now c.args.journal.now.now in
    let p = progress c.args.journal.now.now.tables [] in
    subst (λ (rs : RRows). Reads {A = Progress} (inserts_from source s (rows_of c.args.outer.now) rs p c.args.caller.now) (reached c.insert_values.result c.insert_values.new.journal.now.tables) c.insert_values.new.caller) (sym c.in-Values.is)
    (subst (λ (list : List RRow). Reads {A = Progress} (in_turn (adds_values s) list p c.args.caller.now) (reached c.insert_values.result c.insert_values.new.journal.now.tables) c.insert_values.new.caller) c.as_slice.ensures (c.insert_values.ensures.reads objects is))

pub returns-in-Query-clause-reads : goal.returns-in-Query-clause-reads
returns-in-Query-clause-reads g c objects is =
    let s = setting_of g.C.Caller.calls (g.S.Subqueries.sub c.args.sub.now) objects c.args.command.now in
    let source = rows_over g.C.Caller.calls c.args.command.now c.args.journal.now.now in
    let p = progress c.args.journal.now.now.tables [] in
    subst (λ (rs : RRows). Reads {A = Progress} (inserts_from source s (rows_of c.args.outer.now) rs p c.args.caller.now) (reached c.insert_query.result c.insert_query.new.journal.now.tables) c.insert_query.new.caller) (sym c.in-Query.is)
    (subst (λ (list : List RExpr). Reads {A = Progress} (adds_from source s (rows_of c.args.outer.now) c.in-Query.query list p c.args.caller.now) (reached c.insert_query.result c.insert_query.new.journal.now.tables) c.insert_query.new.caller) c.as_slice-in-Query.ensures (c.insert_query.ensures.reads objects is))
