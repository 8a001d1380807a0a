use Rattle.std.proofs.Common.{refl}
use Rattle.pl_body_grammar.specs.Grammar.{Assignment}
use Rattle.pl_body_grammar.proofs.Step.{was, gives, makes, makes_none, pairs, first_none, second_none}
use Rattle.pl_body_pieces.proofs.pieces.assignment.Goals as goal

pub returns-in-Err : goal.returns-in-Err
returns-in-Err c = λ s. gives Assignment _ _ (makes_none _ _ _ _ refl (first_none _ _ _ _ refl (was _ _ _ (c.in-Err.ensures s))))

pub returns-in-Ok-expression_until : goal.returns-in-Ok-expression_until
returns-in-Ok-expression_until c = gives Assignment _ _ (makes _ _ _ _ _ _ _ refl (pairs _ _ _ _ _ _ _ _ refl (was _ _ _ c.in-Ok.ensures) (pairs _ _ _ _ _ _ _ _ refl (was _ _ _ c.in-Ok-becomes.ensures) (was _ _ _ c.in-Ok-expression_until.ensures))) refl)

pub returns-in-Err-expression_until : goal.returns-in-Err-expression_until
returns-in-Err-expression_until c = λ s. gives Assignment _ _ (makes_none _ _ _ _ refl (second_none _ _ _ _ _ _ refl (was _ _ _ c.in-Ok.ensures) (second_none _ _ _ _ _ _ refl (was _ _ _ c.in-Ok-becomes.ensures) (was _ _ _ (c.in-Err-expression_until.ensures s)))))

pub returns-in-Err-becomes : goal.returns-in-Err-becomes
returns-in-Err-becomes c = λ s. gives Assignment _ _ (makes_none _ _ _ _ refl (second_none _ _ _ _ _ _ refl (was _ _ _ c.in-Ok.ensures) (first_none _ _ _ _ refl (was _ _ _ (c.in-Err-becomes.ensures s)))))
