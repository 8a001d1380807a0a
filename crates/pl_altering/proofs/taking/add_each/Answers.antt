use Rattle.std.proofs.Common.{None, arith, reverse, rules}
use Rattle.std.proofs.lemmas.Grind.{common_steps}
use Rattle.std.proofs.lemmas.List.{reverse-reverse}
use Rattle.pl_altering.proofs.AsFound.{front_back}
use Rattle.pl_altering.proofs.Turns.{all_left, turn_ends, turn_goes, turn_stops}
use Rattle.pl_altering.proofs.taking.add_each.Goals as goal
use Rattle.pl_world.specs.Changes.{writes}

pub loop-row-init : goal.loop-row-init
loop-row-init g c = λ s same none.
    rw (c.in_ok-left.ensures, reverse-reverse c.args.found) (all_left c.args.command.now (writes s None) c.args.found c.new-rows.result c.args.calling.now c.new-rows.ensures)

pub loop-row-preserved : goal.loop-row-preserved
loop-row-preserved g c = λ s same none.
    turn_goes c.args.command.now (writes s None) c.args.found (reverse c.loop-row.left) (reverse c.pop.new.self) c.in-Some.row (front_back c.loop-row.left c.pop.new.self c.in-Some.row c.in-Some.ensures) c.loop-row.rows
    c.in-Ok.more c.args.calling.now c.loop-row.calling c.add_one.new.calling (c.loop-row.invariant s same none) (c.in-Ok.ensures s same none)

pub returns-in-Err : goal.returns-in-Err
returns-in-Err g c = λ s same none.
    turn_stops c.args.command.now (writes s None) c.args.found (reverse c.loop-row.left) (reverse c.pop.new.self) c.in-Some.row (front_back c.loop-row.left c.pop.new.self c.in-Some.row c.in-Some.ensures) c.loop-row.rows
    c.in-Err.why c.args.calling.now c.loop-row.calling c.add_one.new.calling (c.loop-row.invariant s same none) (c.in-Err.ensures s same none)

pub returns : goal.returns
returns g c = λ s same none.
    turn_ends c.args.command.now (writes s None) c.args.found (reverse c.loop-row.left) c.loop-row.rows c.args.calling.now c.loop-row.calling (first_of (search rules, grind (arith, common_steps))) (c.loop-row.invariant s same none)
