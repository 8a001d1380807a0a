use Rattle.pl_body_grammar.specs.Grammar.{Values}
use Rattle.pl_body_grammar.proofs.Step.{reads_rule}
use Rattle.pl_body_pieces.proofs.pieces.values.Goals as goal

pub returns : goal.returns
returns c = reads_rule Values _ _ _ (c.until.ensures _ c.expressions-values.ensures)
