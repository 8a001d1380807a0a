use Rattle.std.proofs.Common.{refl}
use Rattle.pl_body_grammar.specs.Grammar.{QueryEnd}
use Rattle.pl_body_grammar.proofs.Step.{was, gives, closed, unclosed, until_none}
use Rattle.pl_body_commands.proofs.commands.query_end.Goals as goal

pub returns-then-eat : goal.returns-then-eat
returns-then-eat c = gives QueryEnd _ _ (closed _ _ _ _ _ _ _ _ refl (was _ _ _ c.in-Ok.ensures) c.eat.ensures.result c.if-eat.true c.eat.ensures.new)

pub returns-else-eat : goal.returns-else-eat
returns-else-eat c = λ s. gives QueryEnd _ _ (unclosed _ _ _ _ _ _ _ refl (was _ _ _ c.in-Ok.ensures) c.eat.ensures.result c.if-eat.false)

pub returns-in-Err : goal.returns-in-Err
returns-in-Err c = λ s. gives QueryEnd _ _ (until_none _ _ _ _ refl (was _ _ _ (c.in-Err.ensures s)))
