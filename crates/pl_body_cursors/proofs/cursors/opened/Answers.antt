use Rattle.std.proofs.Common.{refl, ap}
use Rattle.pl_bodies.specs.declared.simple.OpenSource.TheVariants as opened
use Rattle.pl_body_grammar.specs.Grammar.{Opened}
use Rattle.pl_body_grammar.proofs.Step.{was, gives, so_read, so_made, took, left, makes, makes_none}
use Rattle.pl_body_cursors.proofs.cursors.opened.Goals as goal

pub returns-then-eat : goal.returns-then-eat
returns-then-eat c = gives Opened _ _ (took _ _ _ _ _ _ _ _ refl c.eat.ensures.result c.if-eat.true c.eat.ensures.new (was _ _ _ (so_made _ _ _ _ (ap (λ xs. opened.Bound xs) c.new.ensures) refl)))

pub returns : goal.returns
returns c = so_read _ _ _ _ (gives Opened _ _ (left _ _ _ _ _ _ _ _ refl c.eat.ensures.result c.if-eat.false c.eat.ensures.new (left _ _ _ _ _ _ _ _ refl c.eat-2.ensures.result c.if-eat-2.false c.eat-2.ensures.new (was _ _ _ refl)))) c.opened_for.ensures

pub returns-in-Ok : goal.returns-in-Ok
returns-in-Ok c = gives Opened _ _ (left _ _ _ _ _ _ _ _ refl c.eat.ensures.result c.if-eat.false c.eat.ensures.new (took _ _ _ _ _ _ _ _ refl c.eat-2.ensures.result c.if-eat-2.true c.eat-2.ensures.new (makes _ _ _ _ _ _ _ refl (was _ _ _ (c.in-Ok.ensures _ (c.until-closed.ensures _ c.expressions-arguments.ensures))) refl)))

pub returns-in-Err : goal.returns-in-Err
returns-in-Err c = λ s. gives Opened _ _ (left _ _ _ _ _ _ _ _ refl c.eat.ensures.result c.if-eat.false c.eat.ensures.new (took _ _ _ _ _ _ _ _ refl c.eat-2.ensures.result c.if-eat-2.true c.eat-2.ensures.new (makes_none _ _ _ _ refl (was _ _ _ (c.in-Err.ensures _ (c.until-closed.ensures _ c.expressions-arguments.ensures) s)))))
