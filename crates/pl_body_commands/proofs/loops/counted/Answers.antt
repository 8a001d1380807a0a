use Rattle.std.proofs.Common.{refl}
use Rattle.pl_body_grammar.specs.Grammar.{Counted}
use Rattle.pl_body_grammar.proofs.Step.{was, gives, so_read, behind, absent, told, untold}
use Rattle.pl_body_commands.proofs.loops.counted.Goals as goal

pub returns : goal.returns
returns c = so_read _ _ _ _ (gives Counted _ _ (untold _ _ _ _ _ _ _ _ refl c.sees_pair.ensures c.if-sees_pair.false (was _ _ _ refl))) c.upward.ensures

pub returns-then-eat : goal.returns-then-eat
returns-then-eat c = so_read _ _ _ _ (gives Counted _ _ (told _ _ _ _ _ _ _ _ refl c.sees_pair.ensures c.if-sees_pair.true (behind _ _ _ _ _ _ _ refl c.eat.ensures.result c.if-eat.true c.eat.ensures.new (was _ _ _ refl)))) c.downward.ensures

pub returns-then-sees_pair : goal.returns-then-sees_pair
returns-then-sees_pair c = λ s. gives Counted _ _ (told _ _ _ _ _ _ _ _ refl c.sees_pair.ensures c.if-sees_pair.true (absent _ _ _ _ _ refl c.eat.ensures.result c.if-eat.false))
