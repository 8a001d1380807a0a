use Rattle.std.proofs.Common.{refl}
use Rattle.pl_body_grammar.specs.Grammar.{DefaultSign}
use Rattle.pl_body_grammar.proofs.Step.{was, gives, so_read, took, left}
use Rattle.pl_body_cursors.proofs.declarations.default_sign.Goals as goal

pub returns-then-eat : goal.returns-then-eat
returns-then-eat c = gives DefaultSign _ _ (took _ _ _ _ _ _ _ _ refl c.eat.ensures.result c.if-eat.true c.eat.ensures.new (was _ _ _ refl))

pub returns : goal.returns
returns c = so_read _ _ _ _ (gives DefaultSign _ _ (left _ _ _ _ _ _ _ _ refl c.eat.ensures.result c.if-eat.false c.eat.ensures.new (was _ _ _ refl))) c.becomes.ensures
