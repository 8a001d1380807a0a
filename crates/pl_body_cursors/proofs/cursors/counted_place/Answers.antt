use Rattle.std.proofs.Common.{refl}
use Rattle.pl_bodies.specs.declared.simple.Direction.TheVariants as direction
use Rattle.pl_body_grammar.specs.Grammar as spec
use Rattle.pl_body_grammar.specs.Words.{ABSOLUTE, RELATIVE}
use Rattle.pl_grammar.specs.Rule.{fork, make, ◌before◌}
use Rattle.pl_body_grammar.proofs.Step.{was, reading, took, left, behind, absent, makes, makes_none}
use Rattle.pl_body_cursors.proofs.cursors.counted_place.Goals as goal

pub returns-in-Ok : goal.returns-in-Ok
returns-in-Ok c = reading (fork ABSOLUTE (make direction.Absolute spec.operand) (RELATIVE before make direction.Relative spec.operand)) _ _ (took _ _ _ _ _ _ _ _ refl c.eat.ensures.result c.if-eat.true c.eat.ensures.new (makes _ _ _ _ _ _ _ refl (was _ _ _ c.in-Ok.ensures) refl))

pub returns-in-Err : goal.returns-in-Err
returns-in-Err c = λ s. reading (fork ABSOLUTE (make direction.Absolute spec.operand) (RELATIVE before make direction.Relative spec.operand)) _ _ (took _ _ _ _ _ _ _ _ refl c.eat.ensures.result c.if-eat.true c.eat.ensures.new (makes_none _ _ _ _ refl (was _ _ _ (c.in-Err.ensures s))))

pub returns : goal.returns
returns c = λ s. reading (fork ABSOLUTE (make direction.Absolute spec.operand) (RELATIVE before make direction.Relative spec.operand)) _ _ (left _ _ _ _ _ _ _ _ refl c.eat.ensures.result c.if-eat.false c.eat.ensures.new (absent _ _ _ _ _ refl c.eat-2.ensures.result c.if-eat-2.false))

pub returns-in-Ok-read_operand : goal.returns-in-Ok-read_operand
returns-in-Ok-read_operand c = reading (fork ABSOLUTE (make direction.Absolute spec.operand) (RELATIVE before make direction.Relative spec.operand)) _ _ (left _ _ _ _ _ _ _ _ refl c.eat.ensures.result c.if-eat.false c.eat.ensures.new (behind _ _ _ _ _ _ _ refl c.eat-2.ensures.result c.if-eat-2.true c.eat-2.ensures.new (makes _ _ _ _ _ _ _ refl (was _ _ _ c.in-Ok-read_operand.ensures) refl)))

pub returns-in-Err-read_operand : goal.returns-in-Err-read_operand
returns-in-Err-read_operand c = λ s. reading (fork ABSOLUTE (make direction.Absolute spec.operand) (RELATIVE before make direction.Relative spec.operand)) _ _ (left _ _ _ _ _ _ _ _ refl c.eat.ensures.result c.if-eat.false c.eat.ensures.new (behind _ _ _ _ _ _ _ refl c.eat-2.ensures.result c.if-eat-2.true c.eat-2.ensures.new (makes_none _ _ _ _ refl (was _ _ _ (c.in-Err-read_operand.ensures s)))))
