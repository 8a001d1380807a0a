use Rattle.std.proofs.Common.{◌+◌, arith, drop}
use Rattle.std.proofs.lemmas.List.{drop_all}
use Rattle.pl_altering.proofs.Over.{over}
use Rattle.pl_altering.proofs.Turns.{all_left, front, turn_ends, turn_goes, turn_stops}
use Rattle.pl_altering.proofs.running.insert_found.Goals as goal
use Rattle.pl_world.specs.Changes.{adds_found}

pub loop-row-init : goal.loop-row-init
loop-row-init g c = all_left c.args.command.now (adds_found (over c.args.command.now c.args.inside.now) c.args.parts.now) c.args.found.now c.new-rows.result c.args.calling.now c.new-rows.ensures

pub loop-row-preserved : goal.loop-row-preserved
loop-row-preserved g c =
    let i = c.loop-row.row-index in
    turn_goes c.args.command.now (adds_found (over c.args.command.now c.args.inside.now) c.args.parts.now) c.args.found.now (drop i c.args.found.now) (drop (i + 1) c.args.found.now) c.row-item.result (front c.args.found.now i c.row-item.result c.loop-row-test.true c.row-item.is) c.loop-row.rows
    c.in-Ok.more c.args.calling.now c.loop-row.calling c.add_found.new.calling c.loop-row.invariant c.in-Ok.ensures

pub returns-in-Err : goal.returns-in-Err
returns-in-Err g c =
    let i = c.loop-row.row-index in
    turn_stops c.args.command.now (adds_found (over c.args.command.now c.args.inside.now) c.args.parts.now) c.args.found.now (drop i c.args.found.now) (drop (i + 1) c.args.found.now) c.row-item.result (front c.args.found.now i c.row-item.result c.loop-row-test.true c.row-item.is) c.loop-row.rows
    c.in-Err.why c.args.calling.now c.loop-row.calling c.add_found.new.calling c.loop-row.invariant c.in-Err.ensures

pub returns : goal.returns
returns g c =
    turn_ends c.args.command.now (adds_found (over c.args.command.now c.args.inside.now) c.args.parts.now) c.args.found.now (drop c.loop-row.row-index c.args.found.now) c.loop-row.rows c.args.calling.now c.loop-row.calling (drop_all c.loop-row.row-index c.args.found.now (omega (arith, c.loop-row-test.false))) c.loop-row.invariant
