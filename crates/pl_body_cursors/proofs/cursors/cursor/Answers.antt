use Rattle.std.proofs.Common.{refl}
use Rattle.pl_body_grammar.specs.Grammar.{Cursor}
use Rattle.pl_body_grammar.proofs.Step.{was, gives, so_read, took, left, behind, absent, makes, makes_none}
use Rattle.pl_body_cursors.proofs.cursors.cursor.Goals as goal

pub returns-then-eat : goal.returns-then-eat
returns-then-eat c = so_read _ _ _ _ (gives Cursor _ _ (took _ _ _ _ _ _ _ _ refl c.eat.ensures.result c.if-eat.true c.eat.ensures.new (was _ _ _ refl))) c.open_of.ensures

pub returns-then-eat-2 : goal.returns-then-eat-2
returns-then-eat-2 c = so_read _ _ _ _ (gives Cursor _ _ (left _ _ _ _ _ _ _ _ refl c.eat.ensures.result c.if-eat.false c.eat.ensures.new (took _ _ _ _ _ _ _ _ refl c.eat-2.ensures.result c.if-eat-2.true c.eat-2.ensures.new (was _ _ _ refl)))) c.fetch.ensures

pub returns-then-eat-3 : goal.returns-then-eat-3
returns-then-eat-3 c = so_read _ _ _ _ (gives Cursor _ _ (left _ _ _ _ _ _ _ _ refl c.eat.ensures.result c.if-eat.false c.eat.ensures.new (left _ _ _ _ _ _ _ _ refl c.eat-2.ensures.result c.if-eat-2.false c.eat-2.ensures.new (took _ _ _ _ _ _ _ _ refl c.eat-3.ensures.result c.if-eat-3.true c.eat-3.ensures.new (was _ _ _ refl))))) c.move_of.ensures

pub returns : goal.returns
returns c = λ s. gives Cursor _ _ (left _ _ _ _ _ _ _ _ refl c.eat.ensures.result c.if-eat.false c.eat.ensures.new (left _ _ _ _ _ _ _ _ refl c.eat-2.ensures.result c.if-eat-2.false c.eat-2.ensures.new (left _ _ _ _ _ _ _ _ refl c.eat-3.ensures.result c.if-eat-3.false c.eat-3.ensures.new (absent _ _ _ _ _ refl c.eat-4.ensures.result c.if-eat-4.false))))

pub returns-in-Ok : goal.returns-in-Ok
returns-in-Ok c = gives Cursor _ _ (left _ _ _ _ _ _ _ _ refl c.eat.ensures.result c.if-eat.false c.eat.ensures.new (left _ _ _ _ _ _ _ _ refl c.eat-2.ensures.result c.if-eat-2.false c.eat-2.ensures.new (left _ _ _ _ _ _ _ _ refl c.eat-3.ensures.result c.if-eat-3.false c.eat-3.ensures.new (behind _ _ _ _ _ _ _ refl c.eat-4.ensures.result c.if-eat-4.true c.eat-4.ensures.new (makes _ _ _ _ _ _ _ refl (was _ _ _ (c.in-Ok.ensures _ c.name-cursor.ensures)) refl)))))

pub returns-in-Err : goal.returns-in-Err
returns-in-Err c = λ s. gives Cursor _ _ (left _ _ _ _ _ _ _ _ refl c.eat.ensures.result c.if-eat.false c.eat.ensures.new (left _ _ _ _ _ _ _ _ refl c.eat-2.ensures.result c.if-eat-2.false c.eat-2.ensures.new (left _ _ _ _ _ _ _ _ refl c.eat-3.ensures.result c.if-eat-3.false c.eat-3.ensures.new (behind _ _ _ _ _ _ _ refl c.eat-4.ensures.result c.if-eat-4.true c.eat-4.ensures.new (makes_none _ _ _ _ refl (was _ _ _ (c.in-Err.ensures _ c.name-cursor.ensures s)))))))
