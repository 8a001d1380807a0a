use Rattle.std.proofs.Common.{refl}
use Rattle.pl_body_grammar.specs.Grammar.{Declared}
use Rattle.pl_body_grammar.proofs.Step.{was, gives, so_read, told, untold}
use Rattle.pl_body_cursors.proofs.declarations.declared.Goals as goal

pub returns-then-sees_pair : goal.returns-then-sees_pair
returns-then-sees_pair c = so_read _ _ _ _ (gives Declared _ _ (told _ _ _ _ _ _ _ _ refl c.sees_pair.ensures c.if-sees_pair.true (was _ _ _ refl))) c.cursor_declared.ensures

pub returns : goal.returns
returns c = so_read _ _ _ _ (gives Declared _ _ (untold _ _ _ _ _ _ _ _ refl c.sees_pair.ensures c.if-sees_pair.false (was _ _ _ refl))) c.variable_declared.ensures
