use Rattle.std.proofs.Common.{rules}
use Rattle.pl_expr_parse.specs.Grammar as x
use Rattle.pl_expr_parse.specs.Finished.{reads_front}
use Rattle.pl_expr_parse.specs.Finished.{reads_front}
use Rattle.pl_body_grammar.proofs.values.more_expressions.Goals as goal

pub returns : goal.returns
returns c = c.links.ensures (reads_front x.Expression) (record { reads = λ old new r p. search rules })
