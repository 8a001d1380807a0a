use Rattle.std.proofs.Common.{refl}
use Rattle.pl_body_grammar.specs.Grammar.{Transaction}
use Rattle.pl_body_grammar.proofs.Step.{was, gives, so_read, took, left, behind, absent}
use Rattle.pl_body_commands.proofs.commands.transaction.Goals as goal

pub returns-then-eat : goal.returns-then-eat
returns-then-eat c = so_read _ _ _ _ (gives Transaction _ _ (took _ _ _ _ _ _ _ _ refl c.eat.ensures.result c.if-eat.true c.eat.ensures.new (was _ _ _ refl))) (c.until.ensures _ refl)

pub returns-then-eat-2 : goal.returns-then-eat-2
returns-then-eat-2 c = so_read _ _ _ _ (gives Transaction _ _ (left _ _ _ _ _ _ _ _ refl c.eat.ensures.result c.if-eat.false c.eat.ensures.new (behind _ _ _ _ _ _ _ refl c.eat-2.ensures.result c.if-eat-2.true c.eat-2.ensures.new (was _ _ _ refl)))) (c.until-then-eat-2.ensures _ refl)

pub returns : goal.returns
returns c = λ s. gives Transaction _ _ (left _ _ _ _ _ _ _ _ refl c.eat.ensures.result c.if-eat.false c.eat.ensures.new (absent _ _ _ _ _ refl c.eat-2.ensures.result c.if-eat-2.false))
