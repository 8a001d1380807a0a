use Rattle.std.proofs.Common.{◌∙◌, ap, sym, List, [], arith}
use Rattle.pl_change.proofs.Turns.{front, turn_ends, turn_goes, turn_stops}
use Rattle.pl_change.specs.Changes.{adds_found, progress}
use Rattle.pl_change.specs.Running.{setting_of}
use Rattle.pl_journal.proofs.OneTable.{only_same, only_then}
use Rattle.pl_inside.specs.pl_query.Rows.{in_turn}
use Rattle.pl_value.specs.Frames.{Row}
use Rattle.pl_change.proofs.commands.insert_found.Goals as goal

pub loop-row-init : goal.loop-row-init
loop-row-init g c =
    record {
      reads = λ objects is. ap (λ (rows : List Row). in_turn (adds_found (setting_of g.C.Caller.calls (g.S.Subqueries.sub c.args.sub.now) objects c.args.command.now) c.args.values.now) c.args.found.now (progress c.args.journal.now.now.tables rows) c.args.caller.now) (sym c.new-rows.ensures);
      only = only_same c.args.command.now.change.now.table c.args.journal.now;
      around = c.in_ok-frame.ensures;
    }

pub loop-row-preserved : goal.loop-row-preserved
loop-row-preserved g c =
    let name = c.args.command.now.change.now.table in
    let was = c.loop-row.invariant in
    record {
      reads = λ objects is.
          turn_goes (adds_found (setting_of g.C.Caller.calls (g.S.Subqueries.sub c.args.sub.now) objects c.args.command.now) c.args.values.now) c.args.found.now c.loop-row.row-index c.row-item.result (front c.args.found.now c.loop-row.row-index c.row-item.result c.loop-row-test.true c.row-item.is)
          (in_turn (adds_found (setting_of g.C.Caller.calls (g.S.Subqueries.sub c.args.sub.now) objects c.args.command.now) c.args.values.now) c.args.found.now (progress c.args.journal.now.now.tables []) c.args.caller.now)
          (progress c.loop-row.journal.now.tables c.loop-row.rows) (progress c.insert_one.new.journal.now.tables c.in-Ok.more) c.loop-row.caller c.insert_one.new.caller (was.reads objects is)
          (c.in-Ok.ensures.reads objects (is ∙ sym was.only.objects));
      only = only_then name c.args.journal.now c.loop-row.journal c.insert_one.new.journal was.only c.in-Ok.ensures.only;
      around = c.in-Ok.ensures.around;
    }

pub returns-in-Err : goal.returns-in-Err
returns-in-Err g c =
    let name = c.args.command.now.change.now.table in
    let was = c.loop-row.invariant in
    record {
      reads = λ objects is.
          turn_stops (adds_found (setting_of g.C.Caller.calls (g.S.Subqueries.sub c.args.sub.now) objects c.args.command.now) c.args.values.now) c.args.found.now c.loop-row.row-index c.row-item.result (front c.args.found.now c.loop-row.row-index c.row-item.result c.loop-row-test.true c.row-item.is)
          (in_turn (adds_found (setting_of g.C.Caller.calls (g.S.Subqueries.sub c.args.sub.now) objects c.args.command.now) c.args.values.now) c.args.found.now (progress c.args.journal.now.now.tables []) c.args.caller.now)
          (progress c.loop-row.journal.now.tables c.loop-row.rows) c.loop-row.caller c.insert_one.new.caller c.in-Err.why (was.reads objects is)
          (c.in-Err.ensures.reads objects (is ∙ sym was.only.objects));
      only = only_then name c.args.journal.now c.loop-row.journal c.insert_one.new.journal was.only c.in-Err.ensures.only;
    }

pub returns-clause-reads : goal.returns-clause-reads
returns-clause-reads g c objects is =
    let s = setting_of g.C.Caller.calls (g.S.Subqueries.sub c.args.sub.now) objects c.args.command.now in
    turn_ends (adds_found s c.args.values.now) c.args.found.now c.loop-row.row-index (omega (arith, c.loop-row-test.false))
    (in_turn (adds_found s c.args.values.now) c.args.found.now (progress c.args.journal.now.now.tables []) c.args.caller.now) (progress c.loop-row.journal.now.tables c.loop-row.rows) c.loop-row.caller (c.loop-row.invariant.reads objects is)

pub returns-in_err-frame-clause-only : goal.returns-in_err-frame-clause-only
returns-in_err-frame-clause-only g c = only_same c.args.command.now.change.now.table c.args.journal.now
