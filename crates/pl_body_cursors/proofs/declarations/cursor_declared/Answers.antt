use Rattle.std.proofs.Common.{refl}
use Rattle.pl_body_grammar.specs.Grammar.{CursorDeclared}
use Rattle.pl_body_grammar.proofs.Step.{was, gives, behind, absent, makes, makes_none, pairs, first_none, second_none, before_first}
use Rattle.pl_body_cursors.proofs.declarations.cursor_declared.Goals as goal

pub returns-in-Err : goal.returns-in-Err
returns-in-Err c = λ s. gives CursorDeclared _ _ (makes_none _ _ _ _ refl (first_none _ _ _ _ refl (was _ _ _ (c.in-Err.ensures s))))

pub returns : goal.returns
returns c = λ s. gives CursorDeclared _ _ (makes_none _ _ _ _ refl (second_none _ _ _ _ _ _ refl (was _ _ _ c.in-Ok.ensures) (before_first _ _ _ _ _ _ refl (absent _ _ _ _ _ refl c.eat.ensures.result c.if-eat.false))))

pub returns-in-Ok-cursor_bound : goal.returns-in-Ok-cursor_bound
returns-in-Ok-cursor_bound c = gives CursorDeclared _ _ (makes _ _ _ _ _ _ _ refl (pairs _ _ _ _ _ _ _ _ refl (was _ _ _ c.in-Ok.ensures) (before_first _ _ _ _ _ _ refl (behind _ _ _ _ _ _ _ refl c.eat.ensures.result c.if-eat.true c.eat.ensures.new (was _ _ _ c.in-Ok-cursor_bound.ensures)))) refl)

pub returns-in-Err-cursor_bound : goal.returns-in-Err-cursor_bound
returns-in-Err-cursor_bound c = λ s. gives CursorDeclared _ _ (makes_none _ _ _ _ refl (second_none _ _ _ _ _ _ refl (was _ _ _ c.in-Ok.ensures) (before_first _ _ _ _ _ _ refl (behind _ _ _ _ _ _ _ refl c.eat.ensures.result c.if-eat.true c.eat.ensures.new (was _ _ _ (c.in-Err-cursor_bound.ensures s))))))
