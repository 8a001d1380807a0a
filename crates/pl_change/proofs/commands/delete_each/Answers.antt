use Rattle.std.proofs.Common.{◌∙◌, ap, sym, get_or, List, [], arith}
use Rattle.std.proofs.lemmas.List.{drop_more}
use Rattle.pl_change.proofs.Turns.{turn_ends, turn_goes, turn_stops}
use Rattle.pl_change.specs.Changes.{deletes, progress}
use Rattle.pl_change.specs.Running.{setting_of}
use Rattle.pl_journal.proofs.OneTable.{only_same, only_then}
use Rattle.pl_inside.specs.pl_query.Rows.{in_turn}
use Rattle.pl_value.specs.Frames.{Row}
use Rattle.pl_change.proofs.commands.delete_each.Goals as goal

pub loop-id-init : goal.loop-id-init
loop-id-init g c =
    record {
      reads = λ objects is. ap (λ (rows : List Row). in_turn (deletes (setting_of g.C.Caller.calls (g.S.Subqueries.sub c.args.sub.now) objects c.args.command.now) c.args.condition.now) c.args.ids.now (progress c.args.journal.now.now.tables rows) c.args.caller.now) (sym c.new-rows.ensures);
      only = only_same c.args.command.now.change.now.table c.args.journal.now;
    }

pub loop-id-preserved : goal.loop-id-preserved
loop-id-preserved g c =
    let name = c.args.command.now.change.now.table in
    let was = c.loop-id.invariant in
    record {
      reads = λ objects is.
          turn_goes (deletes (setting_of g.C.Caller.calls (g.S.Subqueries.sub c.args.sub.now) objects c.args.command.now) c.args.condition.now) c.args.ids.now c.loop-id.id-index (get_or c.args.ids.now c.loop-id.id-index 0) (drop_more c.args.ids.now c.loop-id.id-index 0 c.loop-id-test.true)
          (in_turn (deletes (setting_of g.C.Caller.calls (g.S.Subqueries.sub c.args.sub.now) objects c.args.command.now) c.args.condition.now) c.args.ids.now (progress c.args.journal.now.now.tables []) c.args.caller.now)
          (progress c.loop-id.journal.now.tables c.loop-id.rows) (progress c.delete_row.new.journal.now.tables c.in-Ok.more) c.loop-id.caller c.delete_row.new.caller (was.reads objects is)
          (c.in-Ok.ensures.reads objects (is ∙ sym was.only.objects));
      only = only_then name c.args.journal.now c.loop-id.journal c.delete_row.new.journal was.only c.in-Ok.ensures.only;
    }

pub returns-in-Err : goal.returns-in-Err
returns-in-Err g c =
    let name = c.args.command.now.change.now.table in
    let was = c.loop-id.invariant in
    record {
      reads = λ objects is.
          turn_stops (deletes (setting_of g.C.Caller.calls (g.S.Subqueries.sub c.args.sub.now) objects c.args.command.now) c.args.condition.now) c.args.ids.now c.loop-id.id-index (get_or c.args.ids.now c.loop-id.id-index 0) (drop_more c.args.ids.now c.loop-id.id-index 0 c.loop-id-test.true)
          (in_turn (deletes (setting_of g.C.Caller.calls (g.S.Subqueries.sub c.args.sub.now) objects c.args.command.now) c.args.condition.now) c.args.ids.now (progress c.args.journal.now.now.tables []) c.args.caller.now)
          (progress c.loop-id.journal.now.tables c.loop-id.rows) c.loop-id.caller c.delete_row.new.caller c.in-Err.why (was.reads objects is)
          (c.in-Err.ensures.reads objects (is ∙ sym was.only.objects));
      only = only_then name c.args.journal.now c.loop-id.journal c.delete_row.new.journal was.only c.in-Err.ensures.only;
    }

pub returns-clause-reads : goal.returns-clause-reads
returns-clause-reads g c objects is =
    let s = setting_of g.C.Caller.calls (g.S.Subqueries.sub c.args.sub.now) objects c.args.command.now in
    turn_ends (deletes s c.args.condition.now) c.args.ids.now c.loop-id.id-index (omega (arith, c.loop-id-test.false))
    (in_turn (deletes s c.args.condition.now) c.args.ids.now (progress c.args.journal.now.now.tables []) c.args.caller.now) (progress c.loop-id.journal.now.tables c.loop-id.rows) c.loop-id.caller (c.loop-id.invariant.reads objects is)
