use Rattle.std.proofs.Common.{rules, refl}
use Rattle.pl_body_grammar.specs.FirstFollow.{reads_part}
use Rattle.pl_body_grammar.specs.Grammar.{CursorParameters, CursorParameter}
use Rattle.pl_body_grammar.proofs.Step.{was, gives, so_read, so_made, took, left}
use Rattle.pl_body_cursors.proofs.declarations.cursor_parameters.Goals as goal

pub returns : goal.returns
returns c = gives CursorParameters _ _ (left _ _ _ _ _ _ _ _ refl c.eat.ensures.result c.if-eat.false c.eat.ensures.new (was _ _ _ (so_made _ _ _ _ c.new.ensures refl)))

pub returns-then-eat : goal.returns-then-eat
returns-then-eat c = so_read _ _ _ _ (gives CursorParameters _ _ (took _ _ _ _ _ _ _ _ refl c.eat.ensures.result c.if-eat.true c.eat.ensures.new (was _ _ _ refl))) (c.until.ensures _ (c.list-parameters.ensures (reads_part CursorParameter) (record { reads = λ old new r p. search rules })))
