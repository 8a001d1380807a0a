use Rattle.std.proofs.Common.{refl}
use Rattle.pl_body_grammar.specs.Grammar.{Into}
use Rattle.pl_body_grammar.proofs.Step.{was, gives, skipped, makes, makes_none, pairs, second_none}
use Rattle.pl_body_grammar.proofs.values.into.Goals as goal

pub returns-in-Ok : goal.returns-in-Ok
returns-in-Ok c = gives Into _ _ (makes _ _ _ _ _ _ _ refl (pairs _ _ _ _ _ _ _ _ refl (skipped _ _ _ _ _ refl c.eat-is_strict.ensures.result c.eat-is_strict.ensures.new) (was _ _ _ c.in-Ok.ensures)) refl)

pub returns-in-Err : goal.returns-in-Err
returns-in-Err c = λ s. gives Into _ _ (makes_none _ _ _ _ refl (second_none _ _ _ _ _ _ refl (skipped _ _ _ _ _ refl c.eat-is_strict.ensures.result c.eat-is_strict.ensures.new) (was _ _ _ (c.in-Err.ensures s))))
