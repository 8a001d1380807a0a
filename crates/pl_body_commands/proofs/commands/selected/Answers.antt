use Rattle.std.proofs.Common.{refl}
use Rattle.pl_body_grammar.specs.Grammar.{Selected}
use Rattle.pl_body_grammar.proofs.Step.{was, gives, took, left, skipped, makes, makes_none, pairs, second_none}
use Rattle.pl_body_commands.proofs.commands.selected.Goals as goal

pub returns-in-Ok : goal.returns-in-Ok
returns-in-Ok c = gives Selected _ _ (took _ _ _ _ _ _ _ _ refl c.eat.ensures.result c.if-eat.true c.eat.ensures.new (makes _ _ _ _ _ _ _ refl (was _ _ _ c.in-Ok.ensures) refl))

pub returns-in-Err : goal.returns-in-Err
returns-in-Err c = λ s. gives Selected _ _ (took _ _ _ _ _ _ _ _ refl c.eat.ensures.result c.if-eat.true c.eat.ensures.new (makes_none _ _ _ _ refl (was _ _ _ (c.in-Err.ensures s))))

pub returns-in-Ok-into_items : goal.returns-in-Ok-into_items
returns-in-Ok-into_items c = gives Selected _ _ (left _ _ _ _ _ _ _ _ refl c.eat.ensures.result c.if-eat.false c.eat.ensures.new (makes _ _ _ _ _ _ _ refl (pairs _ _ _ _ _ _ _ _ refl (skipped _ _ _ _ _ refl c.eat-2.ensures.result c.eat-2.ensures.new) (was _ _ _ c.in-Ok-into_items.ensures)) refl))

pub returns-in-Err-into_items : goal.returns-in-Err-into_items
returns-in-Err-into_items c = λ s. gives Selected _ _ (left _ _ _ _ _ _ _ _ refl c.eat.ensures.result c.if-eat.false c.eat.ensures.new (makes_none _ _ _ _ refl (second_none _ _ _ _ _ _ refl (skipped _ _ _ _ _ refl c.eat-2.ensures.result c.eat-2.ensures.new) (was _ _ _ (c.in-Err-into_items.ensures s)))))
