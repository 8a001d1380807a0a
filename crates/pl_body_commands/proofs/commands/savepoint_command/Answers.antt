use Rattle.std.proofs.Common.{refl}
use Rattle.pl_body_grammar.specs.Grammar as spec
use Rattle.pl_body_grammar.proofs.Step.{was, reading, took, left, behind, absent, makes, makes_none}
use Rattle.pl_body_commands.proofs.commands.savepoint_command.Goals as goal

pub returns-in-Ok : goal.returns-in-Ok
returns-in-Ok c = reading spec.savepoint_command _ _ (took _ _ _ _ _ _ _ _ refl c.eat.ensures.result c.if-eat.true c.eat.ensures.new (makes _ _ _ _ _ _ _ refl (was _ _ _ (c.in-Ok.ensures _ c.name-name.ensures)) refl))

pub returns-in-Err : goal.returns-in-Err
returns-in-Err c = λ s. reading spec.savepoint_command _ _ (took _ _ _ _ _ _ _ _ refl c.eat.ensures.result c.if-eat.true c.eat.ensures.new (makes_none _ _ _ _ refl (was _ _ _ (c.in-Err.ensures _ c.name-name.ensures s))))

pub returns : goal.returns
returns c = λ s. reading spec.savepoint_command _ _ (left _ _ _ _ _ _ _ _ refl c.eat.ensures.result c.if-eat.false c.eat.ensures.new (absent _ _ _ _ _ refl c.eat-2.ensures.result c.if-eat-2.false))

pub returns-in-Ok-until : goal.returns-in-Ok-until
returns-in-Ok-until c = reading spec.savepoint_command _ _ (left _ _ _ _ _ _ _ _ refl c.eat.ensures.result c.if-eat.false c.eat.ensures.new (behind _ _ _ _ _ _ _ refl c.eat-2.ensures.result c.if-eat-2.true c.eat-2.ensures.new (makes _ _ _ _ _ _ _ refl (was _ _ _ (c.in-Ok-until.ensures _ c.read_savepoint_name-name.ensures)) refl)))

pub returns-in-Err-until : goal.returns-in-Err-until
returns-in-Err-until c = λ s. reading spec.savepoint_command _ _ (left _ _ _ _ _ _ _ _ refl c.eat.ensures.result c.if-eat.false c.eat.ensures.new (behind _ _ _ _ _ _ _ refl c.eat-2.ensures.result c.if-eat-2.true c.eat-2.ensures.new (makes_none _ _ _ _ refl (was _ _ _ (c.in-Err-until.ensures _ c.read_savepoint_name-name.ensures s)))))
