use Rattle.std.proofs.Common.{refl}
use Rattle.pl_body_grammar.specs.Grammar.{OptionalName}
use Rattle.pl_body_grammar.proofs.Step.{was, gives, begun, other, makes, makes_none}
use Rattle.pl_body_grammar.proofs.values.optional_name.Goals as goal

pub returns : goal.returns
returns c = gives OptionalName _ _ (other _ _ _ _ _ _ refl c.sees.ensures.begun c.if-sees.false (was _ _ _ refl))

pub returns-in-Ok : goal.returns-in-Ok
returns-in-Ok c = gives OptionalName _ _ (begun _ _ _ _ _ _ refl c.sees.ensures.begun c.if-sees.true (makes _ _ _ _ _ _ _ refl (was _ _ _ c.in-Ok.ensures) refl))

pub returns-in-Err : goal.returns-in-Err
returns-in-Err c = λ s. gives OptionalName _ _ (begun _ _ _ _ _ _ refl c.sees.ensures.begun c.if-sees.true (makes_none _ _ _ _ refl (was _ _ _ (c.in-Err.ensures s))))
