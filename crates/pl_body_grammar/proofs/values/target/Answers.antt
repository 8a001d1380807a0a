use Rattle.std.proofs.Common.{refl}
use Rattle.pl_body_grammar.specs.Grammar.{Target}
use Rattle.pl_body_grammar.proofs.Step.{was, gives, so_made, took, left, makes, makes_none, pairs, first_none, second_none}
use Rattle.pl_body_grammar.proofs.values.target.Goals as goal

pub returns-in-Err : goal.returns-in-Err
returns-in-Err c = λ s. gives Target _ _ (makes_none _ _ _ _ refl (first_none _ _ _ _ refl (was _ _ _ (c.in-Err.ensures s))))

pub returns : goal.returns
returns c = gives Target _ _ (so_made _ _ _ _ c.target_of-2.ensures (makes _ _ _ _ _ _ _ refl (pairs _ _ _ _ _ _ _ _ refl (was _ _ _ c.in-Ok.ensures) (left _ _ _ _ _ _ _ _ refl c.eat.ensures.result c.if-eat.false c.eat.ensures.new (was _ _ _ refl))) refl))

pub returns-in-Ok-name : goal.returns-in-Ok-name
returns-in-Ok-name c = gives Target _ _ (so_made _ _ _ _ c.target_of.ensures (makes _ _ _ _ _ _ _ refl (pairs _ _ _ _ _ _ _ _ refl (was _ _ _ c.in-Ok.ensures) (took _ _ _ _ _ _ _ _ refl c.eat.ensures.result c.if-eat.true c.eat.ensures.new (makes _ _ _ _ _ _ _ refl (was _ _ _ c.in-Ok-name.ensures) refl))) refl))

pub returns-in-Err-name : goal.returns-in-Err-name
returns-in-Err-name c = λ s. gives Target _ _ (makes_none _ _ _ _ refl (second_none _ _ _ _ _ _ refl (was _ _ _ c.in-Ok.ensures) (took _ _ _ _ _ _ _ _ refl c.eat.ensures.result c.if-eat.true c.eat.ensures.new (makes_none _ _ _ _ refl (was _ _ _ (c.in-Err-name.ensures s))))))
