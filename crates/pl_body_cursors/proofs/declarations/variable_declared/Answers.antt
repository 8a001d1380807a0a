use Rattle.std.proofs.Common.{refl}
use Rattle.pl_body_grammar.specs.Grammar.{VariableDeclared}
use Rattle.pl_body_grammar.proofs.Step.{was, gives, so_read, behind, absent, told, untold}
use Rattle.pl_body_cursors.proofs.declarations.variable_declared.Goals as goal

pub returns : goal.returns
returns c = so_read _ _ _ _ (gives VariableDeclared _ _ (untold _ _ _ _ _ _ _ _ refl c.sees_pair.ensures c.if-sees_pair.false (was _ _ _ refl))) c.variable-2.ensures

pub returns-then-eat : goal.returns-then-eat
returns-then-eat c = so_read _ _ _ _ (gives VariableDeclared _ _ (told _ _ _ _ _ _ _ _ refl c.sees_pair.ensures c.if-sees_pair.true (behind _ _ _ _ _ _ _ refl c.eat.ensures.result c.if-eat.true c.eat.ensures.new (was _ _ _ refl)))) c.variable.ensures

pub returns-then-sees_pair : goal.returns-then-sees_pair
returns-then-sees_pair c = λ s. gives VariableDeclared _ _ (told _ _ _ _ _ _ _ _ refl c.sees_pair.ensures c.if-sees_pair.true (absent _ _ _ _ _ refl c.eat.ensures.result c.if-eat.false))
