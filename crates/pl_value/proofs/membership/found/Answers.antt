use Rattle.pl_value.specs.Frames.{rows_of}
use Rattle.pl_value.specs.Meaning.{value}
use Rattle.pl_value.proofs.Found.{among_next, among_end}
use Rattle.pl_value.proofs.membership.found.Goals as goal

pub loop-other-preserved : goal.loop-other-preserved
loop-other-preserved g c = λ calls sub caller.
    among_next (value calls sub) c.args.others.now c.loop-other.other-index c.other-item.result c.loop-other-test.true c.other-item.is
    c.args.to.now c.args.x.now c.loop-other.so_far _ _ c.in_ok-equals.ensures.0 (rows_of c.args.frame.now) caller
    (c.in_ok-equals.ensures.1 calls sub caller) c.in_ok-equals.ensures.2 c.joint-so_far.ensures (c.loop-other.invariant calls sub caller)

pub returns : goal.returns
returns g c = λ calls sub caller.
    among_end (value calls sub) c.args.others.now c.loop-other.other-index c.args.to.now c.args.x.now c.loop-other.so_far (rows_of c.args.frame.now) caller
    c.loop-other-test.false (c.loop-other.invariant calls sub caller)
