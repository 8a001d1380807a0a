use Rattle.std.proofs.Common.{refl}
use Rattle.pl_body_grammar.specs.Grammar.{OpenedFor, Scrolled}
use Rattle.pl_body_grammar.proofs.Step.{was, gives, so_read, took, left, behind, absent}
use Rattle.pl_body_cursors.proofs.cursors.opened_for.Goals as goal

pub returns-then-eat-2 : goal.returns-then-eat-2
returns-then-eat-2 c = so_read _ _ _ _ (gives OpenedFor _ _ (took _ _ _ _ _ _ _ _ refl c.eat.ensures.result c.if-eat.true c.eat.ensures.new (behind _ _ _ _ _ _ _ refl c.eat-then-eat.ensures.result c.if-eat-2.true c.eat-then-eat.ensures.new (was _ _ _ refl)))) c.for_not_scrolled.ensures

pub returns-then-eat : goal.returns-then-eat
returns-then-eat c = λ s. gives OpenedFor _ _ (took _ _ _ _ _ _ _ _ refl c.eat.ensures.result c.if-eat.true c.eat.ensures.new (absent _ _ _ _ _ refl c.eat-then-eat.ensures.result c.if-eat-2.false))

pub returns-then-eat-4 : goal.returns-then-eat-4
returns-then-eat-4 c = so_read _ _ _ _ (gives OpenedFor _ _ (left _ _ _ _ _ _ _ _ refl c.eat.ensures.result c.if-eat.false c.eat.ensures.new (took _ _ _ _ _ _ _ _ refl c.eat-2.ensures.result c.if-eat-3.true c.eat-2.ensures.new (behind _ _ _ _ _ _ _ refl c.eat-then-eat-3.ensures.result c.if-eat-4.true c.eat-then-eat-3.ensures.new (was _ _ _ (gives Scrolled _ _ (was _ _ _ refl))))))) c.opened_as.ensures

pub returns-then-eat-3 : goal.returns-then-eat-3
returns-then-eat-3 c = λ s. gives OpenedFor _ _ (left _ _ _ _ _ _ _ _ refl c.eat.ensures.result c.if-eat.false c.eat.ensures.new (took _ _ _ _ _ _ _ _ refl c.eat-2.ensures.result c.if-eat-3.true c.eat-2.ensures.new (absent _ _ _ _ _ refl c.eat-then-eat-3.ensures.result c.if-eat-4.false)))

pub returns : goal.returns
returns c = so_read _ _ _ _ (gives OpenedFor _ _ (left _ _ _ _ _ _ _ _ refl c.eat.ensures.result c.if-eat.false c.eat.ensures.new (left _ _ _ _ _ _ _ _ refl c.eat-2.ensures.result c.if-eat-3.false c.eat-2.ensures.new (was _ _ _ refl)))) c.for_not_scrolled-2.ensures
