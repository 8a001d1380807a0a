use Rattle.std.proofs.Common.{◌∙◌, refl, rules}
use Rattle.pl_asking.proofs.Acts.{count_here, each_end, each_off, each_on}
use Rattle.pl_asking.proofs.placing.diagnose.Goals as goal

pub loop-target-init : goal.loop-target-init
loop-target-init c = record {
  way = count_here c.args.at c.args.engine.now c.args.targets.now _ (search rules);
  keeps = refl;
}

pub returns-in_default-2-clause-is : goal.returns-in_default-2-clause-is
returns-in_default-2-clause-is c =
    each_off c.args.at c.args.targets.now _ _ c.loop-target.invariant.way _ c.loop-target-test.true c.target-item.is c.put_at.new.engine c.in_ok-other.other c.in_ok-other.ensures.is c.in_default-2.not-Next

pub loop-target-preserved : goal.loop-target-preserved
loop-target-preserved c = record {
  way = each_on c.args.at c.args.targets.now _ _ c.loop-target.invariant.way _ c.loop-target-test.true c.target-item.is c.put_at.new.engine c.in_ok-other.other c.in_ok-other.ensures.is c.in-Next.is;
  keeps = c.in_ok-other.ensures.keeps ∙ c.loop-target.invariant.keeps;
}

pub returns-clause-is : goal.returns-clause-is
returns-clause-is c = each_end c.args.at c.args.targets.now _ _ c.loop-target.invariant.way c.loop-target-test.false
