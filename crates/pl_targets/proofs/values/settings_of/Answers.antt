use Rattle.pl_names.specs.Names.{around}
use Rattle.pl_targets.proofs.InTurn.{set_failed, set_more}
use Rattle.pl_targets.specs.Values.{nothing_set, settings_on}
use Rattle.pl_targets.proofs.values.settings_of.Goals as goal

pub returns-in_err-done : goal.returns-in_err-done
returns-in_err-done c =
    set_failed c.args.columns.now (around c.args.names.now) c.args.assignments.now c.loop-assignment.assignment-index c.assignment-item.result c.loop-assignment-test.true c.assignment-item.is
    (settings_on c.args.assignments.now c.args.columns.now nothing_set (around c.args.names.now) c.args.made.now) c.loop-assignment.done c.loop-assignment.made c.with_setting.new.made c.in_err-done.field-0.0 c.from_residual.result c.from_residual.ensures.1
    c.loop-assignment.invariant c.in_err-done.ensures

pub loop-assignment-preserved : goal.loop-assignment-preserved
loop-assignment-preserved c =
    set_more c.args.columns.now (around c.args.names.now) c.args.assignments.now c.loop-assignment.assignment-index c.assignment-item.result c.loop-assignment-test.true c.assignment-item.is
    (settings_on c.args.assignments.now c.args.columns.now nothing_set (around c.args.names.now) c.args.made.now) c.loop-assignment.done c.in_ok-done.done c.loop-assignment.made c.with_setting.new.made c.loop-assignment.invariant c.in_ok-done.ensures
