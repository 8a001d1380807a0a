use Rattle.std.proofs.Common.{refl}
use Rattle.pl_body_grammar.specs.Grammar.{Level}
use Rattle.pl_body_grammar.proofs.Step.{was, gives, took, left, behind, absent}
use Rattle.pl_body_control.proofs.raise.level.Goals as goal

pub returns-then-eat : goal.returns-then-eat
returns-then-eat c = gives Level _ _ (took _ _ _ _ _ _ _ _ refl c.eat.ensures.result c.if-eat.true c.eat.ensures.new (was _ _ _ refl))

pub returns-then-eat-2 : goal.returns-then-eat-2
returns-then-eat-2 c = gives Level _ _ (left _ _ _ _ _ _ _ _ refl c.eat.ensures.result c.if-eat.false c.eat.ensures.new (took _ _ _ _ _ _ _ _ refl c.eat-2.ensures.result c.if-eat-2.true c.eat-2.ensures.new (was _ _ _ refl)))

pub returns-then-eat-3 : goal.returns-then-eat-3
returns-then-eat-3 c = gives Level _ _ (left _ _ _ _ _ _ _ _ refl c.eat.ensures.result c.if-eat.false c.eat.ensures.new (left _ _ _ _ _ _ _ _ refl c.eat-2.ensures.result c.if-eat-2.false c.eat-2.ensures.new (took _ _ _ _ _ _ _ _ refl c.eat-3.ensures.result c.if-eat-3.true c.eat-3.ensures.new (was _ _ _ refl))))

pub returns-then-eat-4 : goal.returns-then-eat-4
returns-then-eat-4 c = gives Level _ _ (left _ _ _ _ _ _ _ _ refl c.eat.ensures.result c.if-eat.false c.eat.ensures.new (left _ _ _ _ _ _ _ _ refl c.eat-2.ensures.result c.if-eat-2.false c.eat-2.ensures.new (left _ _ _ _ _ _ _ _ refl c.eat-3.ensures.result c.if-eat-3.false c.eat-3.ensures.new (took _ _ _ _ _ _ _ _ refl c.eat-4.ensures.result c.if-eat-4.true c.eat-4.ensures.new (was _ _ _ refl)))))

pub returns-then-eat-5 : goal.returns-then-eat-5
returns-then-eat-5 c = gives Level _ _ (left _ _ _ _ _ _ _ _ refl c.eat.ensures.result c.if-eat.false c.eat.ensures.new (left _ _ _ _ _ _ _ _ refl c.eat-2.ensures.result c.if-eat-2.false c.eat-2.ensures.new (left _ _ _ _ _ _ _ _ refl c.eat-3.ensures.result c.if-eat-3.false c.eat-3.ensures.new (left _ _ _ _ _ _ _ _ refl c.eat-4.ensures.result c.if-eat-4.false c.eat-4.ensures.new (took _ _ _ _ _ _ _ _ refl c.eat-5.ensures.result c.if-eat-5.true c.eat-5.ensures.new (was _ _ _ refl))))))

pub returns-then-eat-6 : goal.returns-then-eat-6
returns-then-eat-6 c = gives Level _ _ (left _ _ _ _ _ _ _ _ refl c.eat.ensures.result c.if-eat.false c.eat.ensures.new (left _ _ _ _ _ _ _ _ refl c.eat-2.ensures.result c.if-eat-2.false c.eat-2.ensures.new (left _ _ _ _ _ _ _ _ refl c.eat-3.ensures.result c.if-eat-3.false c.eat-3.ensures.new (left _ _ _ _ _ _ _ _ refl c.eat-4.ensures.result c.if-eat-4.false c.eat-4.ensures.new (left _ _ _ _ _ _ _ _ refl c.eat-5.ensures.result c.if-eat-5.false c.eat-5.ensures.new (behind _ _ _ _ _ _ _ refl c.eat-6.ensures.result c.if-eat-6.true c.eat-6.ensures.new (was _ _ _ refl)))))))

pub returns : goal.returns
returns c = λ s. gives Level _ _ (left _ _ _ _ _ _ _ _ refl c.eat.ensures.result c.if-eat.false c.eat.ensures.new (left _ _ _ _ _ _ _ _ refl c.eat-2.ensures.result c.if-eat-2.false c.eat-2.ensures.new (left _ _ _ _ _ _ _ _ refl c.eat-3.ensures.result c.if-eat-3.false c.eat-3.ensures.new (left _ _ _ _ _ _ _ _ refl c.eat-4.ensures.result c.if-eat-4.false c.eat-4.ensures.new (left _ _ _ _ _ _ _ _ refl c.eat-5.ensures.result c.if-eat-5.false c.eat-5.ensures.new (absent _ _ _ _ _ refl c.eat-6.ensures.result c.if-eat-6.false))))))
