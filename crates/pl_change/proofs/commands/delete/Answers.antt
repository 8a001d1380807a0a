use Rattle.std.proofs.Common.{sym, subst, ℕ, List, []}
use Rattle.pl_change.proofs.LeftOut.{deletes_enough}
use Rattle.pl_change.proofs.Turns.{same_reads}
use Rattle.pl_change.specs.Running.{AreEnough}
use Rattle.pl_change.specs.Changes.{Progress, deletes, ids, progress}
use Rattle.pl_change.specs.Running.{reached, setting_of}
use Rattle.pl_journal.proofs.OneTable.{only_same}
use Rattle.pl_inside.specs.pl_query.Rows.{in_turn}
use Rattle.pl_value.specs.Frames.{rows_of}
use Rattle.pl_change.proofs.commands.delete.Goals as goal

pub returns-clause-reads : goal.returns-clause-reads
returns-clause-reads g c objects is =
    let s = setting_of g.C.Caller.calls (g.S.Subqueries.sub c.args.sub.now) objects c.args.command.now in
    let ts = c.args.journal.now.now.tables in
    let name = c.args.command.now.change.now.table in
    let enough = subst (λ (made : List ℕ). AreEnough name c.args.condition.now (rows_of c.args.command.now.around.now) ts made) (sym c.as_slice.ensures.value) c.in_ok-ids.ensures in
    same_reads {A = Progress} (in_turn (deletes s c.args.condition.now) (ids name ts) (progress ts []) c.args.caller.now) (in_turn (deletes s c.args.condition.now) c.as_slice.result.now (progress ts []) c.args.caller.now)
    (reached c.delete_each.result c.delete_each.new.journal.now.tables) c.delete_each.new.caller
    (deletes_enough s ts c.as_slice.result.now c.args.caller.now c.args.condition.now enough)
    (c.delete_each.ensures.reads objects is)

pub returns-in_err-ids-clause-only : goal.returns-in_err-ids-clause-only
returns-in_err-ids-clause-only g c = only_same c.args.command.now.change.now.table c.args.journal.now
