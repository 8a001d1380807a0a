use Rattle.std.proofs.Common.{refl}
use Rattle.pl_body_grammar.specs.Grammar as spec
use Rattle.pl_body_grammar.proofs.Step.{was, reading, so_read, behind, absent}
use Rattle.pl_body_commands.proofs.commands.started.Goals as goal

pub returns-then-eat : goal.returns-then-eat
returns-then-eat c = so_read _ _ _ _ (reading spec.started _ _ (behind _ _ _ _ _ _ _ refl c.eat.ensures.result c.if-eat.true c.eat.ensures.new (was _ _ _ refl))) (c.until.ensures _ refl)

pub returns : goal.returns
returns c = λ s. reading spec.started _ _ (absent _ _ _ _ _ refl c.eat.ensures.result c.if-eat.false)
