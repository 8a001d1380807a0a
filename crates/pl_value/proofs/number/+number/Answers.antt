use Rattle.std.proofs.Common.{◌∙◌, ap, map, drop, rules, ◌+◌}
use Rattle.std.proofs.lemmas.Option.{IfSome_then}
use Rattle.pl_value.specs.Frames.{rows_of}
use Rattle.pl_value.specs.Meaning.{step, steps_read}
use Rattle.pl_value.specs.Number.{number_value}
use Rattle.pl_value.specs.Reading.{then_read}
use Rattle.pl_value.proofs.Lists.{steps_here}
use Rattle.pl_value.proofs.Numbers.{IsOfChain, chain_gives, chain_value, of_packed, step_gives, to_packed}
use Rattle.pl_value.proofs.number.+number.Goals as goal

pub number_in-returns-in-Chain : goal.number_in-returns-in-Chain
number_in-returns-in-Chain g t c = IfSome_then c.unpack.result (of_packed (IsOfChain g.row.C.Denot c.get.result.now (rows_of c.args.frame.now)) number_value c.unpack.result _ c.unpack.ensures c.chain_packed.ensures) (λ n reads calls sub caller.
    chain_value calls sub c.args.e.now c.in-Chain.chain _ (rows_of c.args.frame.now) caller c.in-Chain.is c.get.ensures ∙ reads calls sub caller)

pub number_of_chain-returns-in-Chain : goal.number_of_chain-returns-in-Chain
number_of_chain-returns-in-Chain g t c = IfSome_then c.inner_chain.result c.inner_chain.ensures (λ n reads calls sub caller.
    chain_value calls sub c.args.e.now c.in-Chain.chain _ (rows_of c.args.frame.now) caller c.in-Chain.is c.get.ensures ∙ reads calls sub caller)

pub chain_packed-returns : goal.chain_packed-returns
chain_packed-returns g t c = to_packed (IsOfChain g.row.C.Denot c.args.chain.now (rows_of c.args.frame.now)) number_value c.outer_chain.result _ c.pack.ensures c.outer_chain.ensures

pub outer_chain-returns : goal.outer_chain-returns
outer_chain-returns g t c = IfSome_then c.steps_number.result c.steps_number.ensures (λ n reads calls sub caller.
    chain_gives calls sub c.args.chain.now _ _ _ (rows_of c.args.frame.now) caller (search rules) (c.in_ok-first.ensures calls sub caller) (reads calls sub caller))

pub inner_chain-returns : goal.inner_chain-returns
inner_chain-returns g t c = IfSome_then c.steps_number.result c.steps_number.ensures (λ n reads calls sub caller.
    chain_gives calls sub c.args.chain.now _ _ _ (rows_of c.args.frame.now) caller (search rules) (c.in_ok-first.ensures calls sub caller) (reads calls sub caller))

pub steps_number-loop-step-preserved : goal.steps_number-loop-step-preserved
steps_number-loop-step-preserved g t c = λ calls sub caller.
    steps_here (step calls sub) c.args.steps.now c.loop-step.step-index c.step-item.result c.loop-step-test.true c.step-item.is (number_value c.loop-step.so_far) (rows_of c.args.frame.now) caller (c.loop-step.invariant calls sub caller)
    ∙ ap (λ q. then_read q (λ v w. steps_read (map (step calls sub) (drop (c.loop-step.step-index + 1) c.args.steps.now)) v (rows_of c.args.frame.now) w)) (c.in_ok-so_far.ensures calls sub caller)

pub step_number-returns : goal.step_number-returns
step_number-returns g t c = IfSome_then c.calculated.result c.calculated.ensures (λ n gives calls sub caller.
    step_gives calls sub c.args.step.now _ (number_value c.args.so_far) _ _ (rows_of c.args.frame.now) caller c.in-Arithmetic.is (c.in_ok-operand.ensures calls sub caller) gives)
