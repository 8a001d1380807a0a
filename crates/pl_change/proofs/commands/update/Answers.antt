use Rattle.std.proofs.Common.{sym, subst, ℕ, List, []}
use Rattle.pl_change.proofs.LeftOut.{updates_enough}
use Rattle.pl_change.proofs.Turns.{same_reads}
use Rattle.pl_change.specs.Running.{AreEnough}
use Rattle.pl_change.specs.Changes.{Progress, ids, progress, updates}
use Rattle.pl_change.specs.Running.{reached, setting_of}
use Rattle.pl_journal.proofs.OneTable.{only_same}
use Rattle.pl_inside.specs.pl_query.Rows.{in_turn}
use Rattle.pl_resolved.specs.declared.expression.RExpr.{RExpr}
use Rattle.pl_value.specs.Answers.{Reads}
use Rattle.pl_value.specs.Frames.{rows_of}
use Rattle.pl_change.proofs.commands.update.Goals as goal

pub returns-clause-reads : goal.returns-clause-reads
returns-clause-reads g c objects is =
    let s = setting_of g.C.Caller.calls (g.S.Subqueries.sub c.args.sub.now) objects c.args.command.now in
    let ts = c.args.journal.now.now.tables in
    let name = c.args.command.now.change.now.table in
    let r = reached c.update_each.result c.update_each.new.journal.now.tables in
    let enough = subst (λ (made : List ℕ). AreEnough name c.args.condition.now (rows_of c.args.command.now.around.now) ts made) (sym c.as_slice-3.ensures.value) c.in_ok-ids.ensures in
    subst (λ (columns : List ℕ). Reads {A = Progress} (in_turn (updates s columns c.args.values.now c.args.condition.now) (ids name ts) (progress ts []) c.args.caller.now) r c.update_each.new.caller) c.as_slice.ensures
    (subst (λ (values : List RExpr). Reads {A = Progress} (in_turn (updates s c.as_slice.result.now values c.args.condition.now) (ids name ts) (progress ts []) c.args.caller.now) r c.update_each.new.caller) c.as_slice-2.ensures
    (same_reads {A = Progress} (in_turn (updates s c.as_slice.result.now c.as_slice-2.result.now c.args.condition.now) (ids name ts) (progress ts []) c.args.caller.now)
    (in_turn (updates s c.as_slice.result.now c.as_slice-2.result.now c.args.condition.now) c.as_slice-3.result.now (progress ts []) c.args.caller.now) r c.update_each.new.caller
    (updates_enough s ts c.as_slice-3.result.now c.args.caller.now c.as_slice.result.now c.as_slice-2.result.now c.args.condition.now enough)
    (c.update_each.ensures.reads objects is)))

pub returns-in_err-ids-clause-only : goal.returns-in_err-ids-clause-only
returns-in_err-ids-clause-only g c = only_same c.args.command.now.change.now.table c.args.journal.now
