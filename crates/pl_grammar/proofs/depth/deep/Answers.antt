use Rattle.std.proofs.Common.{◌≡◌, ◌+◌, ◌<◌, ◌≤◌, length, arith, subst, below_more}
use Rattle.pl_grammar.specs.Deep.{State}
use Rattle.pl_grammar.proofs.DeepSteps.{behind, behind_more}
use Rattle.pl_grammar.proofs.depth.deep.Goals as goal

pub loop-at-preserved : goal.loop-at-preserved
loop-at-preserved c =
    let next : c.step.new.self ≡ behind c.args.tokens.now (c.loop-at.at + 1) =
    behind_more _ _ _ c.loop-at-test.true c.index-tokens-at.is c.loop-at.invariant.parts c.in_ok-step.ensures in
    let few : length c.step.new.self.parts ≤ 100 = omega (arith, c.count.ensures, c.if-count-gt-MAX_PARTS.false) in
    record {
      parts = next;
      few = below_more _ _ c.loop-at.invariant.few (subst (λ (s : State). length s.parts ≤ 100) next few);
    }

pub returns-then-count-gt-MAX_PARTS-clause-some : goal.returns-then-count-gt-MAX_PARTS-clause-some
returns-then-count-gt-MAX_PARTS-clause-some c =
    let next : c.step.new.self ≡ behind c.args.tokens.now (c.loop-at.at + 1) =
    behind_more _ _ _ c.loop-at-test.true c.index-tokens-at.is c.loop-at.invariant.parts c.in_ok-step.ensures in
    let many : 100 < length c.step.new.self.parts = omega (arith, c.count.ensures, c.if-count-gt-MAX_PARTS.true) in
    record {
      here = subst (λ (s : State). 100 < length s.parts) next many;
      before = c.loop-at.invariant.few;
    }
