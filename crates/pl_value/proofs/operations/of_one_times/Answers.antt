use Rattle.std.proofs.Common.{arith, rules}
use Rattle.pl_value.proofs.Times.{done, goes_on, ends}
use Rattle.pl_value.proofs.operations.of_one_times.Goals as goal

pub returns-in_err-made : goal.returns-in_err-made
returns-in_err-made c = ends c.args.operator _ c.loop-more.more c.loop-more.v _ _ c.loop-more.invariant c.loop-more-test.true c.in_err-made.ensures (search rules)

pub loop-more-preserved : goal.loop-more-preserved
loop-more-preserved c = goes_on c.args.operator _ c.loop-more.more c.loop-more.v _ c.loop-more.invariant c.loop-more-test.true c.in_ok-made.ensures

pub returns : goal.returns
returns c = done c.args.operator _ c.loop-more.more c.loop-more.v c.loop-more.invariant (omega arith)
