use Rattle.std.proofs.Common.{refl}
use Rattle.pl_grammar.specs.Rule.{fork, nothing, ◌before◌}
use Rattle.pl_grammar.specs.Marks.{meant}
use Rattle.pl_body_grammar.proofs.Step.{was, reading, so_read, took, left, no_value}
use Rattle.pl_body_grammar.proofs.steps.either.Goals as goal

pub returns-then-eat : goal.returns-then-eat
returns-then-eat c = reading (fork (meant c.args.first) (nothing tt) (meant c.args.second before nothing tt)) _ _ (took _ _ _ _ _ _ _ _ refl c.eat.ensures.result c.if-eat.true c.eat.ensures.new (was _ _ _ refl))

pub returns : goal.returns
returns c = so_read _ _ _ _ (reading (fork (meant c.args.first) (nothing tt) (meant c.args.second before nothing tt)) _ _ (left _ _ _ _ _ _ _ _ refl c.eat.ensures.result c.if-eat.false c.eat.ensures.new (was _ _ _ refl))) (no_value _ _ _ c.expect.ensures)
