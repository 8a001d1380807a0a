use Rattle.std.proofs.Common.{rules}
use Rattle.pl_expr_parse.specs.Grammar as x
use Rattle.pl_expr_parse.specs.Finished.{reads_front}
use Rattle.pl_expr_parse.specs.Finished.{reads_front}
use Rattle.pl_body_grammar.specs.Grammar.{Expressions}
use Rattle.pl_body_grammar.proofs.Step.{reads_rule}
use Rattle.pl_body_grammar.proofs.values.expressions.Goals as goal

pub returns : goal.returns
returns c = reads_rule Expressions _ _ _ (c.list.ensures (reads_front x.Expression) (record { reads = λ old new r p. search rules }))
