use Rattle.std.proofs.Common.{refl}
use Rattle.std.proofs.lemmas.Option.{IfSome_then}
use Rattle.pl_direct.proofs.Joints.{and_is, no_condition, one_condition, or_is}
use Rattle.pl_direct.proofs.Parts.{compare_is, literal_is, minus_is, not_is, null_is, null_variable}
use Rattle.pl_direct.proofs.Steps.{no_more, one_factor, one_term, product_is, sum_is}
use Rattle.pl_scope.specs.Resolution.{factor_view, term_view}
use Rattle.pl_direct.proofs.direct.+direct.Goals as goal

pub known-returns-in-Literal : goal.known-returns-in-Literal
known-returns-in-Literal g t c = rw (c.in-Literal.is) (IfSome_then c.constant.result c.constant.ensures (λ k is. literal_is _ _ _ k is))

pub known-returns-in-Parameter : goal.known-returns-in-Parameter
known-returns-in-Parameter g t c = rw (c.in-Parameter.is) c.numbered.ensures

pub known-returns-in-Name : goal.known-returns-in-Name
known-returns-in-Name g t c = rw (c.in-Name.is) c.named.ensures

pub known-returns-in-Signed : goal.known-returns-in-Signed
known-returns-in-Signed g t c = rw (c.in-Signed.is, ← c.as_slice.ensures) c.negative.ensures

pub known-returns-in_ok-first-in-Product : goal.known-returns-in_ok-first-in-Product
known-returns-in_ok-first-in-Product g t c = rw (c.in-Product.is, ← c.as_slice-in-Product.ensures) (IfSome_then c.factors_from.result c.factors_from.ensures (λ k leads.
    product_is _ _ _ _ _ k c.in_ok-first-in-Product.ensures leads))

pub known-returns-in_ok-first-in-Sum : goal.known-returns-in_ok-first-in-Sum
known-returns-in_ok-first-in-Sum g t c = rw (c.in-Sum.is, ← c.as_slice-in-Sum.ensures) (IfSome_then c.terms_from.result c.terms_from.ensures (λ k leads.
    sum_is _ _ _ _ _ k c.in_ok-first-in-Sum.ensures leads))

pub known-returns-in_ok-right-in-Compare : goal.known-returns-in_ok-right-in-Compare
known-returns-in_ok-right-in-Compare g t c = rw (c.in-Compare.is) (IfSome_then c.compared.result c.compared.ensures (λ k both.
    compare_is _ _ _ _ _ _ _ k c.in_ok-left-in-Compare.ensures c.in_ok-right-in-Compare.ensures both.1))

pub known-returns-in-Is : goal.known-returns-in-Is
known-returns-in-Is g t c = rw (c.in-Is.is) c.asking.ensures

pub known-returns-in-Not : goal.known-returns-in-Not
known-returns-in-Not g t c = rw (c.in-Not.is) c.negated.ensures

pub known-returns-in-And : goal.known-returns-in-And
known-returns-in-And g t c = rw (c.in-And.is, ← c.as_slice-in-And.ensures) c.all_of.ensures

pub known-returns-in-Or : goal.known-returns-in-Or
known-returns-in-Or g t c = rw (c.in-Or.is, ← c.as_slice-in-Or.ensures) c.any_of.ensures

pub is_null-returns-in_ok-spot-in-Name : goal.is_null-returns-in_ok-spot-in-Name
is_null-returns-in_ok-spot-in-Name g t c = rw (← c.get.ensures, c.in-Name.is) (IfSome_then c.is_null_there.result c.is_null_there.ensures (λ is at.
    null_variable _ _ _ is _ c.in_ok-spot-in-Name.ensures refl at))

pub negative-returns : goal.negative-returns
negative-returns g t c = IfSome_then c.signed.result c.signed.ensures (λ k both. minus_is _ _ _ _ _ k both.0 both.1 c.in_ok-operand.ensures)

pub asking-returns : goal.asking-returns
asking-returns g t c = IfSome_then c.null_asked.result c.null_asked.ensures (λ k both. null_is _ _ _ _ _ _ k both.0 both.1 c.in_ok-is_null.ensures)

pub negated-returns : goal.negated-returns
negated-returns g t c = IfSome_then c.opposite.result c.opposite.ensures (λ k both. not_is _ _ _ _ _ k both.0 both.1 c.in_ok-operand.ensures)

pub all_of-returns : goal.all_of-returns
all_of-returns g t c = and_is _ _ _ _ c.in_ok-truth.ensures

pub any_of-returns : goal.any_of-returns
any_of-returns g t c = or_is _ _ _ _ c.in_ok-truth.ensures

pub terms_from-loop-term-preserved : goal.terms_from-loop-term-preserved
terms_from-loop-term-preserved g t c = λ last rest. c.loop-term.invariant last
    (one_term c.args.terms.now c.loop-term.term-index c.term-item.result _ _ _ _ _ last c.loop-term-test.true c.term-item.is c.in_ok-operand.ensures c.in_ok-so_far.ensures rest)

pub terms_from-returns : goal.terms_from-returns
terms_from-returns g t c = c.loop-term.invariant _ (no_more term_view c.args.terms.now c.loop-term.term-index _ _ _ c.loop-term-test.false)

pub factors_from-loop-factor-preserved : goal.factors_from-loop-factor-preserved
factors_from-loop-factor-preserved g t c = λ last rest. c.loop-factor.invariant last
    (one_factor c.args.factors.now c.loop-factor.factor-index c.factor-item.result _ _ _ _ _ last c.loop-factor-test.true c.factor-item.is c.in_ok-operand.ensures c.in_ok-so_far.ensures rest)

pub factors_from-returns : goal.factors_from-returns
factors_from-returns g t c = c.loop-factor.invariant _ (no_more factor_view c.args.factors.now c.loop-factor.factor-index _ _ _ c.loop-factor-test.false)

pub joined-loop-e-preserved : goal.joined-loop-e-preserved
joined-loop-e-preserved g t c = λ last rest. c.loop-e.invariant last
    (one_condition c.args.fixed c.args.list.now c.loop-e.e-index c.e-item.result _ _ _ _ _ last _ c.loop-e-test.true c.e-item.is c.in_ok-operand.ensures c.in_ok-truth.ensures c.both-so_far.ensures rest)

pub joined-returns : goal.joined-returns
joined-returns g t c = c.loop-e.invariant _ (no_condition c.args.fixed c.args.list.now c.loop-e.e-index _ _ _ c.loop-e-test.false)
