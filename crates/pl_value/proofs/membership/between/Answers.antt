use Rattle.pl_value.proofs.Between.{lies}
use Rattle.pl_value.proofs.membership.between.Goals as goal

pub returns : goal.returns
returns c = lies c.args.x.now c.args.low.now c.args.high.now _ _ _ c.in_ok-above.ensures c.in_ok-below.ensures c.joint.ensures
