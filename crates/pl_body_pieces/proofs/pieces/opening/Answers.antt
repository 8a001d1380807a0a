use Rattle.std.proofs.Common.{refl}
use Rattle.pl_body_grammar.specs.Grammar.{Opening, Condition}
use Rattle.pl_body_grammar.proofs.Step.{was, gives, so_read, took, left, makes, makes_none}
use Rattle.pl_body_pieces.proofs.pieces.opening.Goals as goal

pub returns-in-Ok : goal.returns-in-Ok
returns-in-Ok c = gives Opening _ _ (took _ _ _ _ _ _ _ _ refl c.eat.ensures.result c.if-eat.true c.eat.ensures.new (makes _ _ _ _ _ _ _ refl (was _ _ _ (gives Condition _ _ (was _ _ _ c.in-Ok.ensures))) refl))

pub returns-in-Err : goal.returns-in-Err
returns-in-Err c = λ s. gives Opening _ _ (took _ _ _ _ _ _ _ _ refl c.eat.ensures.result c.if-eat.true c.eat.ensures.new (makes_none _ _ _ _ refl (was _ _ _ (gives Condition _ _ (was _ _ _ (c.in-Err.ensures s))))))

pub returns-then-eat-2 : goal.returns-then-eat-2
returns-then-eat-2 c = so_read _ _ _ _ (gives Opening _ _ (left _ _ _ _ _ _ _ _ refl c.eat.ensures.result c.if-eat.false c.eat.ensures.new (took _ _ _ _ _ _ _ _ refl c.eat-2.ensures.result c.if-eat-2.true c.eat-2.ensures.new (was _ _ _ refl)))) c.elsif.ensures

pub returns-then-eat-3 : goal.returns-then-eat-3
returns-then-eat-3 c = so_read _ _ _ _ (gives Opening _ _ (left _ _ _ _ _ _ _ _ refl c.eat.ensures.result c.if-eat.false c.eat.ensures.new (left _ _ _ _ _ _ _ _ refl c.eat-2.ensures.result c.if-eat-2.false c.eat-2.ensures.new (took _ _ _ _ _ _ _ _ refl c.eat-3.ensures.result c.if-eat-3.true c.eat-3.ensures.new (was _ _ _ refl))))) c.elsif-then-eat-3.ensures

pub returns : goal.returns
returns c = so_read _ _ _ _ (gives Opening _ _ (left _ _ _ _ _ _ _ _ refl c.eat.ensures.result c.if-eat.false c.eat.ensures.new (left _ _ _ _ _ _ _ _ refl c.eat-2.ensures.result c.if-eat-2.false c.eat-2.ensures.new (left _ _ _ _ _ _ _ _ refl c.eat-3.ensures.result c.if-eat-3.false c.eat-3.ensures.new (was _ _ _ refl))))) c.case_or_loop.ensures
