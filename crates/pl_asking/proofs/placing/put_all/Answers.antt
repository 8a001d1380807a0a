use Rattle.std.proofs.Common.{◌∙◌, refl}
use Rattle.pl_asking.proofs.Acts.{all_end, all_off, all_on, quiet_start}
use Rattle.pl_asking.proofs.placing.put_all.Goals as goal
use Rattle.pl_calling.specs.pl_engine.Engines.{world}
use Rattle.pl_world.specs.Assigning.{put_all}

pub loop-variable-init : goal.loop-variable-init
loop-variable-init c = record {
  way = quiet_start (put_all c.args.variables.now c.args.row.now c.args.at (world c.args.engine.now)) c.args.engine.now;
  keeps = refl;
}

pub returns-in_default-clause-is : goal.returns-in_default-clause-is
returns-in_default-clause-is c =
    all_off c.args.at c.args.variables.now _ c.loop-variable.left.now c.loop-variable.invariant.way _ c.loop-variable-test.true c.variable-item.is c.put_first.new.engine c.in_ok-other.other c.in_ok-other.ensures.is c.in_default.not-Next

pub loop-variable-preserved : goal.loop-variable-preserved
loop-variable-preserved c = record {
  way = all_on c.args.at c.args.variables.now _ c.loop-variable.left.now c.loop-variable.invariant.way _ c.loop-variable-test.true c.variable-item.is c.put_first.new.engine c.in_ok-other.other c.in_ok-other.ensures.is _ c.others-left.ensures c.in-Next.is;
  keeps = c.in_ok-other.ensures.keeps ∙ c.loop-variable.invariant.keeps;
}

pub returns-clause-is : goal.returns-clause-is
returns-clause-is c = all_end c.args.at c.args.variables.now _ c.loop-variable.left.now c.loop-variable.invariant.way c.loop-variable-test.false
