use Rattle.std.proofs.Common.{rules}
use Rattle.pl_expr_parse.specs.Grammar.{Expression}
use Rattle.pl_expr_parse.specs.Finished.{reads_front}
use Rattle.pl_expr_parse.proofs.parse.whole_expression.Goals as goal

pub returns : goal.returns
returns c = c.whole.ensures (reads_front Expression) (record { reads = λ old new r h. search rules })
