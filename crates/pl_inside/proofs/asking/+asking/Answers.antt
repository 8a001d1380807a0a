use Rattle.std.proofs.Common.{arith}
use Rattle.pl_inside.proofs.Alike as alike
use Rattle.pl_inside.proofs.Lists.{next_alike, none_alike}
use Rattle.pl_value.specs.Meaning.{arm, step, value}
use Rattle.pl_inside.proofs.asking.+asking.Goals as goal

pub has_query-returns-in-Constant : goal.has_query-returns-in-Constant
has_query-returns-in-Constant g t c absent calls these those =
    alike.constant_alike calls these those c.args.e.now _ c.in-Constant.is

pub has_query-returns-in-Place : goal.has_query-returns-in-Place
has_query-returns-in-Place g t c absent calls these those =
    alike.place_alike calls these those c.args.e.now _ _ c.in-Place.is

pub has_query-returns-in-Cast : goal.has_query-returns-in-Cast
has_query-returns-in-Cast g t c absent calls these those =
    alike.cast_alike calls these those c.args.e.now c.in-Cast.operand c.get.result.now _ c.in-Cast.is c.get.ensures (c.has_query.ensures absent calls these those)

pub has_query-returns-in-Unary : goal.has_query-returns-in-Unary
has_query-returns-in-Unary g t c absent calls these those =
    alike.unary_alike calls these those c.args.e.now c.in-Unary.operand c.get-in-Unary.result.now _ _ c.in-Unary.is c.get-in-Unary.ensures (c.has_query-in-Unary.ensures absent calls these those)

pub has_query-returns-in-Binary : goal.has_query-returns-in-Binary
has_query-returns-in-Binary g t c absent calls these those =
    alike.binary_alike calls these those c.args.e.now c.in-Binary.operands c.get-in-Binary.result.now _ c.in-Binary.is c.get-in-Binary.ensures (c.pair_has_query.ensures absent calls these those)

pub has_query-returns-in-Chain : goal.has_query-returns-in-Chain
has_query-returns-in-Chain g t c absent calls these those =
    alike.chain_alike calls these those c.args.e.now c.in-Chain.chain c.get-in-Chain.result.now c.in-Chain.is c.get-in-Chain.ensures (c.chain_has_query.ensures absent calls these those)

pub has_query-returns-in-And : goal.has_query-returns-in-And
has_query-returns-in-And g t c absent calls these those =
    alike.and_alike calls these those c.args.e.now c.in-And.parts c.as_slice.result.now c.in-And.is c.as_slice.ensures (c.any_has_query.ensures absent calls these those)

pub has_query-returns-in-Or : goal.has_query-returns-in-Or
has_query-returns-in-Or g t c absent calls these those =
    alike.or_alike calls these those c.args.e.now c.in-Or.parts c.as_slice-in-Or.result.now c.in-Or.is c.as_slice-in-Or.ensures (c.any_has_query-in-Or.ensures absent calls these those)

pub has_query-returns-in-Case : goal.has_query-returns-in-Case
has_query-returns-in-Case g t c absent calls these those =
    alike.case_alike calls these those c.args.e.now c.in-Case.case c.get-in-Case.result.now c.in-Case.is c.get-in-Case.ensures (c.case_has_query.ensures absent calls these those)

pub has_query-returns-in-Coalesce : goal.has_query-returns-in-Coalesce
has_query-returns-in-Coalesce g t c absent calls these those =
    alike.coalesce_alike calls these those c.args.e.now c.in-Coalesce.operands c.as_slice-in-Coalesce.result.now _ c.in-Coalesce.is c.as_slice-in-Coalesce.ensures (c.any_has_query-in-Coalesce.ensures absent calls these those)

pub has_query-returns-in-Combined : goal.has_query-returns-in-Combined
has_query-returns-in-Combined g t c absent calls these those =
    alike.combined_alike calls these those c.args.e.now _ c.in-Combined.operands c.as_slice-in-Combined.result.now c.in-Combined.is c.as_slice-in-Combined.ensures (c.any_has_query-in-Combined.ensures absent calls these those)

pub has_query-returns-in-Row : goal.has_query-returns-in-Row
has_query-returns-in-Row g t c absent calls these those =
    alike.row_alike calls these those c.args.e.now c.in-Row.fields c.as_slice-in-Row.result.now _ c.in-Row.is c.as_slice-in-Row.ensures (c.any_has_query-in-Row.ensures absent calls these those)

pub has_query-returns-in-Call : goal.has_query-returns-in-Call
has_query-returns-in-Call g t c absent calls these those =
    alike.call_alike calls these those c.args.e.now _ c.in-Call.arguments c.as_slice-in-Call.result.now c.in-Call.is c.as_slice-in-Call.ensures (c.any_has_query-in-Call.ensures absent calls these those)

pub any_has_query-loop-part-preserved : goal.any_has_query-loop-part-preserved
any_has_query-loop-part-preserved g t c calls these those rest =
    c.loop-part.invariant calls these those
    (next_alike (value calls these) (value calls those) c.args.parts.now c.loop-part.part-index c.part-item.result c.loop-part-test.true c.part-item.is (c.has_query.ensures c.if-has_query.false calls these those) rest)

pub any_has_query-returns : goal.any_has_query-returns
any_has_query-returns g t c absent calls these those =
    c.loop-part.invariant calls these those
    (none_alike (value calls these) (value calls those) c.args.parts.now c.loop-part.part-index (omega (arith, c.loop-part-test.false)))

pub any_step_has_query-loop-step-preserved : goal.any_step_has_query-loop-step-preserved
any_step_has_query-loop-step-preserved g t c calls these those rest =
    c.loop-step.invariant calls these those
    (next_alike (step calls these) (step calls those) c.args.steps.now c.loop-step.step-index c.step-item.result c.loop-step-test.true c.step-item.is (c.step_has_query.ensures c.if-step_has_query.false calls these those) rest)

pub any_step_has_query-returns : goal.any_step_has_query-returns
any_step_has_query-returns g t c absent calls these those =
    c.loop-step.invariant calls these those
    (none_alike (step calls these) (step calls those) c.args.steps.now c.loop-step.step-index (omega (arith, c.loop-step-test.false)))

pub any_arm_has_query-loop-arm-preserved : goal.any_arm_has_query-loop-arm-preserved
any_arm_has_query-loop-arm-preserved g t c calls these those rest =
    c.loop-arm.invariant calls these those
    (next_alike (arm calls these) (arm calls those) c.args.arms.now c.loop-arm.arm-index c.arm-item.result c.loop-arm-test.true c.arm-item.is (c.arm_has_query.ensures c.if-arm_has_query.false calls these those) rest)

pub any_arm_has_query-returns : goal.any_arm_has_query-returns
any_arm_has_query-returns g t c absent calls these those =
    c.loop-arm.invariant calls these those
    (none_alike (arm calls these) (arm calls those) c.args.arms.now c.loop-arm.arm-index (omega (arith, c.loop-arm-test.false)))

pub if_has_query-returns-in-Some : goal.if_has_query-returns-in-Some
if_has_query-returns-in-Some g t c absent calls these those =
    alike.present_alike calls these those c.args.e.now c.in-Some.e c.get.result.now c.in-Some.is c.get.ensures (c.has_query.ensures absent calls these those)

pub pair_has_query-returns : goal.pair_has_query-returns
pair_has_query-returns g t c absent calls these those =
    alike.pair_alike calls these those c.args.pair.now (c.has_query.ensures c.if-has_query.false calls these those) (c.has_query-2.ensures absent calls these those)

pub arm_has_query-returns : goal.arm_has_query-returns
arm_has_query-returns g t c absent calls these those =
    alike.arm_alike calls these those c.args.arm.now (c.has_query.ensures c.if-has_query.false calls these those) (c.has_query-2.ensures absent calls these those)

pub step_has_query-returns : goal.step_has_query-returns
step_has_query-returns g t c absent calls these those =
    alike.step_alike calls these those c.args.step.now (c.has_query.ensures absent calls these those)

pub chain_has_query-returns : goal.chain_has_query-returns
chain_has_query-returns g t c absent calls these those =
    alike.links_alike calls these those c.args.chain.now c.as_slice.result.now (c.has_query.ensures c.if-has_query.false calls these those) c.as_slice.ensures (c.any_step_has_query.ensures absent calls these those)

pub case_has_query-returns : goal.case_has_query-returns
case_has_query-returns g t c absent calls these those =
    alike.branches_alike calls these those c.args.case.now c.as_slice.result.now (c.if_has_query.ensures c.if-if_has_query.false calls these those) c.as_slice.ensures (c.any_arm_has_query.ensures c.if-any_arm_has_query.false calls these those) (c.if_has_query-2.ensures absent calls these those)
