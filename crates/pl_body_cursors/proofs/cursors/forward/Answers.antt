use Rattle.std.proofs.Common.{refl}
use Rattle.pl_body_grammar.specs.Grammar.{Forward}
use Rattle.pl_body_grammar.proofs.Step.{was, gives, so_read, took, left, begun, other, makes_none, first_none, made_behind}
use Rattle.pl_body_cursors.proofs.cursors.forward.Goals as goal

pub returns-then-eat : goal.returns-then-eat
returns-then-eat c = so_read _ _ _ _ (gives Forward _ _ (took _ _ _ _ _ _ _ _ refl c.eat.ensures.result c.if-eat.true c.eat.ensures.new (was _ _ _ refl))) c.moved.ensures

pub returns-then-begins : goal.returns-then-begins
returns-then-begins c = so_read _ _ _ _ (gives Forward _ _ (left _ _ _ _ _ _ _ _ refl c.eat.ensures.result c.if-eat.false c.eat.ensures.new (begun _ _ _ _ _ _ refl c.begins.ensures c.if-begins.true (was _ _ _ refl)))) c.moved-then-begins.ensures

pub returns-in-Ok : goal.returns-in-Ok
returns-in-Ok c = so_read _ _ _ _ (gives Forward _ _ (left _ _ _ _ _ _ _ _ refl c.eat.ensures.result c.if-eat.false c.eat.ensures.new (other _ _ _ _ _ _ refl c.begins.ensures c.if-begins.false refl))) (made_behind _ _ _ _ _ _ _ _ _ refl (was _ _ _ c.in-Ok.ensures) c.moved-in-Ok.ensures)

pub returns-in-Err : goal.returns-in-Err
returns-in-Err c = λ s. gives Forward _ _ (left _ _ _ _ _ _ _ _ refl c.eat.ensures.result c.if-eat.false c.eat.ensures.new (other _ _ _ _ _ _ refl c.begins.ensures c.if-begins.false (makes_none _ _ _ _ refl (first_none _ _ _ _ refl (was _ _ _ (c.in-Err.ensures s))))))
