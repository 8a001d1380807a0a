use Rattle.std.proofs.Common.{rules}
use Rattle.pl_expr_parse.specs.Grammar.{Query}
use Rattle.pl_expr_parse.specs.Finished.{reads_front}
use Rattle.pl_expr_parse.proofs.parse.whole_query.Goals as goal

pub returns : goal.returns
returns c = c.whole.ensures (reads_front Query) (record { reads = λ old new r h. search rules })
