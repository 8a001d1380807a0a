use Rattle.std.proofs.Common.{refl}
use Rattle.pl_body_grammar.specs.Grammar.{TypeSuffix}
use Rattle.pl_body_grammar.proofs.Step.{was, gives, so_read, took, left, makes, makes_none}
use Rattle.pl_body_cursors.proofs.declarations.type_suffix.Goals as goal

pub returns-then-eat : goal.returns-then-eat
returns-then-eat c = so_read _ _ _ _ (gives TypeSuffix _ _ (took _ _ _ _ _ _ _ _ refl c.eat.ensures.result c.if-eat.true c.eat.ensures.new (was _ _ _ refl))) c.copied_type.ensures

pub returns : goal.returns
returns c = gives TypeSuffix _ _ (left _ _ _ _ _ _ _ _ refl c.eat.ensures.result c.if-eat.false c.eat.ensures.new (left _ _ _ _ _ _ _ _ refl c.eat-2.ensures.result c.if-eat-2.false c.eat-2.ensures.new (was _ _ _ refl)))

pub returns-in-Ok : goal.returns-in-Ok
returns-in-Ok c = gives TypeSuffix _ _ (left _ _ _ _ _ _ _ _ refl c.eat.ensures.result c.if-eat.false c.eat.ensures.new (took _ _ _ _ _ _ _ _ refl c.eat-2.ensures.result c.if-eat-2.true c.eat-2.ensures.new (makes _ _ _ _ _ _ _ refl (was _ _ _ (c.in-Ok.ensures _ (c.until-column.ensures _ c.name-column.ensures))) refl)))

pub returns-in-Err : goal.returns-in-Err
returns-in-Err c = λ s. gives TypeSuffix _ _ (left _ _ _ _ _ _ _ _ refl c.eat.ensures.result c.if-eat.false c.eat.ensures.new (took _ _ _ _ _ _ _ _ refl c.eat-2.ensures.result c.if-eat-2.true c.eat-2.ensures.new (makes_none _ _ _ _ refl (was _ _ _ (c.in-Err.ensures _ (c.until-column.ensures _ c.name-column.ensures) s)))))
