use Rattle.std.proofs.Common.{refl}
use Rattle.pl_body_grammar.specs.Grammar.{Motion}
use Rattle.pl_body_grammar.proofs.Step.{was, gives, so_read, took, left, makes_none, first_none, made_behind}
use Rattle.pl_body_cursors.proofs.cursors.motion.Goals as goal

pub returns-then-eat : goal.returns-then-eat
returns-then-eat c = so_read _ _ _ _ (gives Motion _ _ (took _ _ _ _ _ _ _ _ refl c.eat.ensures.result c.if-eat.true c.eat.ensures.new (was _ _ _ refl))) c.moved.ensures

pub returns-then-eat-2 : goal.returns-then-eat-2
returns-then-eat-2 c = so_read _ _ _ _ (gives Motion _ _ (left _ _ _ _ _ _ _ _ refl c.eat.ensures.result c.if-eat.false c.eat.ensures.new (took _ _ _ _ _ _ _ _ refl c.eat-2.ensures.result c.if-eat-2.true c.eat-2.ensures.new (was _ _ _ refl)))) c.forward.ensures

pub returns-then-eat-3 : goal.returns-then-eat-3
returns-then-eat-3 c = so_read _ _ _ _ (gives Motion _ _ (left _ _ _ _ _ _ _ _ refl c.eat.ensures.result c.if-eat.false c.eat.ensures.new (left _ _ _ _ _ _ _ _ refl c.eat-2.ensures.result c.if-eat-2.false c.eat-2.ensures.new (took _ _ _ _ _ _ _ _ refl c.eat-3.ensures.result c.if-eat-3.true c.eat-3.ensures.new (was _ _ _ refl))))) c.backward.ensures

pub returns-in-Ok : goal.returns-in-Ok
returns-in-Ok c = so_read _ _ _ _ (gives Motion _ _ (left _ _ _ _ _ _ _ _ refl c.eat.ensures.result c.if-eat.false c.eat.ensures.new (left _ _ _ _ _ _ _ _ refl c.eat-2.ensures.result c.if-eat-2.false c.eat-2.ensures.new (left _ _ _ _ _ _ _ _ refl c.eat-3.ensures.result c.if-eat-3.false c.eat-3.ensures.new refl)))) (made_behind _ _ _ _ _ _ _ _ _ refl (was _ _ _ c.in-Ok.ensures) c.moved-in-Ok.ensures)

pub returns-in-Err : goal.returns-in-Err
returns-in-Err c = λ s. gives Motion _ _ (left _ _ _ _ _ _ _ _ refl c.eat.ensures.result c.if-eat.false c.eat.ensures.new (left _ _ _ _ _ _ _ _ refl c.eat-2.ensures.result c.if-eat-2.false c.eat-2.ensures.new (left _ _ _ _ _ _ _ _ refl c.eat-3.ensures.result c.if-eat-3.false c.eat-3.ensures.new (makes_none _ _ _ _ refl (first_none _ _ _ _ refl (was _ _ _ (c.in-Err.ensures s)))))))
