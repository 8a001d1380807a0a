use Rattle.std.proofs.Common.{refl}
use Rattle.pl_body_grammar.specs.Grammar.{Command}
use Rattle.pl_body_grammar.proofs.Step.{was, gives, so_read, took, left, begun, other, makes, makes_none}
use Rattle.pl_body_commands.proofs.commands.command.Goals as goal

pub returns-then-eat : goal.returns-then-eat
returns-then-eat c = so_read _ _ _ _ (gives Command _ _ (took _ _ _ _ _ _ _ _ refl c.eat.ensures.result c.if-eat.true c.eat.ensures.new (was _ _ _ refl))) c.select.ensures

pub returns-then-eat-2 : goal.returns-then-eat-2
returns-then-eat-2 c = so_read _ _ _ _ (gives Command _ _ (left _ _ _ _ _ _ _ _ refl c.eat.ensures.result c.if-eat.false c.eat.ensures.new (took _ _ _ _ _ _ _ _ refl c.eat-2.ensures.result c.if-eat-2.true c.eat-2.ensures.new (was _ _ _ refl)))) c.perform.ensures

pub returns-then-eat-3 : goal.returns-then-eat-3
returns-then-eat-3 c = so_read _ _ _ _ (gives Command _ _ (left _ _ _ _ _ _ _ _ refl c.eat.ensures.result c.if-eat.false c.eat.ensures.new (left _ _ _ _ _ _ _ _ refl c.eat-2.ensures.result c.if-eat-2.false c.eat-2.ensures.new (took _ _ _ _ _ _ _ _ refl c.eat-3.ensures.result c.if-eat-3.true c.eat-3.ensures.new (was _ _ _ refl))))) c.execute.ensures

pub returns-then-begins : goal.returns-then-begins
returns-then-begins c = so_read _ _ _ _ (gives Command _ _ (left _ _ _ _ _ _ _ _ refl c.eat.ensures.result c.if-eat.false c.eat.ensures.new (left _ _ _ _ _ _ _ _ refl c.eat-2.ensures.result c.if-eat-2.false c.eat-2.ensures.new (left _ _ _ _ _ _ _ _ refl c.eat-3.ensures.result c.if-eat-3.false c.eat-3.ensures.new (begun _ _ _ _ _ _ refl c.begins.ensures c.if-begins.true (was _ _ _ refl)))))) c.transaction.ensures

pub returns-then-begins-2 : goal.returns-then-begins-2
returns-then-begins-2 c = so_read _ _ _ _ (gives Command _ _ (left _ _ _ _ _ _ _ _ refl c.eat.ensures.result c.if-eat.false c.eat.ensures.new (left _ _ _ _ _ _ _ _ refl c.eat-2.ensures.result c.if-eat-2.false c.eat-2.ensures.new (left _ _ _ _ _ _ _ _ refl c.eat-3.ensures.result c.if-eat-3.false c.eat-3.ensures.new (other _ _ _ _ _ _ refl c.begins.ensures c.if-begins.false (begun _ _ _ _ _ _ refl c.begins-2.ensures c.if-begins-2.true (was _ _ _ refl))))))) c.changed.ensures

pub returns-in-Ok : goal.returns-in-Ok
returns-in-Ok c = gives Command _ _ (left _ _ _ _ _ _ _ _ refl c.eat.ensures.result c.if-eat.false c.eat.ensures.new (left _ _ _ _ _ _ _ _ refl c.eat-2.ensures.result c.if-eat-2.false c.eat-2.ensures.new (left _ _ _ _ _ _ _ _ refl c.eat-3.ensures.result c.if-eat-3.false c.eat-3.ensures.new (other _ _ _ _ _ _ refl c.begins.ensures c.if-begins.false (other _ _ _ _ _ _ refl c.begins-2.ensures c.if-begins-2.false (makes _ _ _ _ _ _ _ refl (was _ _ _ c.in-Ok.ensures) refl))))))

pub returns-in-Err : goal.returns-in-Err
returns-in-Err c = λ s. gives Command _ _ (left _ _ _ _ _ _ _ _ refl c.eat.ensures.result c.if-eat.false c.eat.ensures.new (left _ _ _ _ _ _ _ _ refl c.eat-2.ensures.result c.if-eat-2.false c.eat-2.ensures.new (left _ _ _ _ _ _ _ _ refl c.eat-3.ensures.result c.if-eat-3.false c.eat-3.ensures.new (other _ _ _ _ _ _ refl c.begins.ensures c.if-begins.false (other _ _ _ _ _ _ refl c.begins-2.ensures c.if-begins-2.false (makes_none _ _ _ _ refl (was _ _ _ (c.in-Err.ensures s))))))))
