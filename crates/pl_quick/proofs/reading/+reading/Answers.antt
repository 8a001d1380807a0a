use Rattle.std.proofs.Common.{◌∙◌, [], ◌∷◌, rules}
use Rattle.std.proofs.lemmas.Option.{IfSome_then}
use Rattle.pl_quick.proofs.Junctions.{and_value, or_value, truths_fixed, truths_on}
use Rattle.pl_quick.proofs.reading.+reading.Goals as goal

pub truth-returns-in-And : goal.truth-returns-in-And
truth-returns-in-And g t c = IfSome_then c.joined.result c.joined.ensures (λ b reads calls sub w.
    and_value calls sub (c.args.variables.now ∷ []) w c.args.e.now _ _ c.in-And.is c.as_slice.ensures ∙ reads calls sub w)

pub truth-returns-in-Or : goal.truth-returns-in-Or
truth-returns-in-Or g t c = IfSome_then c.joined-in-Or.result c.joined-in-Or.ensures (λ b reads calls sub w.
    or_value calls sub (c.args.variables.now ∷ []) w c.args.e.now _ _ c.in-Or.is c.as_slice-in-Or.ensures ∙ reads calls sub w)

pub truth_from-returns-then-truth-fixed : goal.truth_from-returns-then-truth-fixed
truth_from-returns-then-truth-fixed g t c = λ calls sub w.
    truths_fixed calls sub (c.args.variables.now ∷ []) w c.args.fixed c.args.parts.now c.loop-part.part-index c.part-item.result _ c.loop-part-test.true c.part-item.is (c.loop-part.invariant calls sub w)
    (c.in_ok-truth.ensures calls sub w) (search rules)

pub truth_from-loop-part-preserved : goal.truth_from-loop-part-preserved
truth_from-loop-part-preserved g t c = λ calls sub w.
    truths_on calls sub (c.args.variables.now ∷ []) w c.args.fixed c.args.parts.now c.loop-part.part-index c.part-item.result _ c.loop-part-test.true c.part-item.is (c.loop-part.invariant calls sub w)
    (c.in_ok-truth.ensures calls sub w) (search rules)
