use Rattle.std.proofs.Common.{refl}
use Rattle.pl_body_grammar.specs.Grammar.{IntoItems}
use Rattle.pl_body_grammar.proofs.Step.{was, gives, so_read, took, left, makes, makes_none, pairs, first_none, second_none}
use Rattle.pl_body_commands.proofs.commands.into_items.Goals as goal

pub returns-then-eat : goal.returns-then-eat
returns-then-eat c = so_read _ _ _ _ (gives IntoItems _ _ (took _ _ _ _ _ _ _ _ refl c.eat.ensures.result c.if-eat.true c.eat.ensures.new (was _ _ _ refl))) c.into_and_items.ensures

pub returns-in-Ok-optional_into : goal.returns-in-Ok-optional_into
returns-in-Ok-optional_into c = gives IntoItems _ _ (left _ _ _ _ _ _ _ _ refl c.eat.ensures.result c.if-eat.false c.eat.ensures.new (makes _ _ _ _ _ _ _ refl (pairs _ _ _ _ _ _ _ _ refl (was _ _ _ c.in-Ok.ensures) (was _ _ _ c.in-Ok-optional_into.ensures)) refl))

pub returns-in-Err-optional_into : goal.returns-in-Err-optional_into
returns-in-Err-optional_into c = λ s. gives IntoItems _ _ (left _ _ _ _ _ _ _ _ refl c.eat.ensures.result c.if-eat.false c.eat.ensures.new (makes_none _ _ _ _ refl (second_none _ _ _ _ _ _ refl (was _ _ _ c.in-Ok.ensures) (was _ _ _ (c.in-Err-optional_into.ensures s)))))

pub returns-in-Err : goal.returns-in-Err
returns-in-Err c = λ s. gives IntoItems _ _ (left _ _ _ _ _ _ _ _ refl c.eat.ensures.result c.if-eat.false c.eat.ensures.new (makes_none _ _ _ _ refl (first_none _ _ _ _ refl (was _ _ _ (c.in-Err.ensures s)))))
