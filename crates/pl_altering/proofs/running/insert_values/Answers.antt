use Rattle.std.proofs.Common.{◌+◌, Err, List, Ok, arith, drop, subst}
use Rattle.std.proofs.lemmas.List.{drop_all}
use Rattle.pl_altering.proofs.Over.{over}
use Rattle.pl_altering.proofs.Turns.{all_left, front, turn_ends, turn_goes, turn_stops}
use Rattle.pl_altering.proofs.running.insert_values.Goals as goal
use Rattle.pl_altering.specs.Settings.{ReadsOver}
use Rattle.pl_resolved.specs.declared.expression.RExpr.{RExpr}
use Rattle.pl_value.specs.Frames.{Row}
use Rattle.pl_world.specs.Calls.{Within}
use Rattle.pl_world.specs.Changes.{adds, adds_values}

pub loop-row-init : goal.loop-row-init
loop-row-init g c = all_left c.args.command.now (adds_values (over c.args.command.now c.args.inside.now)) c.args.list.now c.new-rows.result c.args.calling.now c.new-rows.ensures

pub loop-row-preserved : goal.loop-row-preserved
loop-row-preserved g c =
    let s = over c.args.command.now c.args.inside.now in
    let i = c.loop-row.row-index in
    turn_goes c.args.command.now (adds_values s) c.args.list.now (drop i c.args.list.now) (drop (i + 1) c.args.list.now) c.row-item.result (front c.args.list.now i c.row-item.result c.loop-row-test.true c.row-item.is) c.loop-row.rows c.in-Ok.more c.args.calling.now c.loop-row.calling c.add_row.new.calling c.loop-row.invariant
    (subst (λ (list : List RExpr). ReadsOver {A = List Row} c.args.command.now (λ (x : Within). adds s list s.around c.loop-row.rows x) (Ok c.in-Ok.more) c.loop-row.calling c.add_row.new.calling) c.as_slice-values.ensures c.in-Ok.ensures)

pub returns-in-Err : goal.returns-in-Err
returns-in-Err g c =
    let s = over c.args.command.now c.args.inside.now in
    let i = c.loop-row.row-index in
    turn_stops c.args.command.now (adds_values s) c.args.list.now (drop i c.args.list.now) (drop (i + 1) c.args.list.now) c.row-item.result (front c.args.list.now i c.row-item.result c.loop-row-test.true c.row-item.is) c.loop-row.rows c.in-Err.why c.args.calling.now c.loop-row.calling c.add_row.new.calling c.loop-row.invariant
    (subst (λ (list : List RExpr). ReadsOver {A = List Row} c.args.command.now (λ (x : Within). adds s list s.around c.loop-row.rows x) (Err c.in-Err.why) c.loop-row.calling c.add_row.new.calling) c.as_slice-values.ensures c.in-Err.ensures)

pub returns : goal.returns
returns g c =
    turn_ends c.args.command.now (adds_values (over c.args.command.now c.args.inside.now)) c.args.list.now (drop c.loop-row.row-index c.args.list.now) c.loop-row.rows c.args.calling.now c.loop-row.calling (drop_all c.loop-row.row-index c.args.list.now (omega (arith, c.loop-row-test.false))) c.loop-row.invariant
