use Rattle.std.proofs.Common.{◌∙◌, rules}
use Rattle.std.proofs.lemmas.Option.{IfSome_then}
use Rattle.pl_value.specs.Frames.{rows_of}
use Rattle.pl_value.specs.Meaning.{value}
use Rattle.pl_value.proofs.Lists.{binary_is, combined_is}
use Rattle.pl_value.proofs.Tested.{not_gives, one_gives, unary_is}
use Rattle.pl_value.proofs.truth.+truth.Goals as goal

pub truth_in-returns-in-Binary : goal.truth_in-returns-in-Binary
truth_in-returns-in-Binary g t c = IfSome_then c.compared.result c.compared.ensures (λ t reads calls sub caller.
    binary_is calls sub c.args.e.now c.in-Binary.operator c.in-Binary.operands _ (rows_of c.args.frame.now) caller c.in-Binary.is c.get.ensures ∙ reads calls sub caller)

pub truth_in-returns-in-Unary : goal.truth_in-returns-in-Unary
truth_in-returns-in-Unary g t c = IfSome_then c.tested.result c.tested.ensures (λ t reads calls sub caller.
    unary_is calls sub c.args.e.now c.in-Unary.operator c.in-Unary.times c.in-Unary.operand _ (rows_of c.args.frame.now) caller c.in-Unary.is c.get-in-Unary.ensures ∙ reads calls sub caller)

pub truth_in-returns-in-Combined : goal.truth_in-returns-in-Combined
truth_in-returns-in-Combined g t c = IfSome_then c.combined.result c.combined.ensures (λ t reads calls sub caller.
    combined_is calls sub c.args.e.now c.in-Combined.combination c.in-Combined.operands _ (rows_of c.args.frame.now) caller c.in-Combined.is c.as_slice.ensures ∙ reads calls sub caller)

pub tested-returns-in_ok-truth-in-Not : goal.tested-returns-in_ok-truth-in-Not
tested-returns-in_ok-truth-in-Not g t c = λ calls sub caller.
    not_gives c.args.operator c.args.times (value calls sub c.args.operand.now) _ _ (rows_of c.args.frame.now) caller c.in-Not.is (search rules) (c.in_ok-truth-in-Not.ensures calls sub caller) c.turned.ensures

pub tested-returns-in_ok-v-in_default : goal.tested-returns-in_ok-v-in_default
tested-returns-in_ok-v-in_default g t c = IfSome_then c.null_tested.result c.null_tested.ensures (λ t gives calls sub caller.
    one_gives c.args.operator c.args.times (value calls sub c.args.operand.now) _ _ (rows_of c.args.frame.now) caller (search rules) (c.in_ok-v-in_default.ensures calls sub caller) gives)
