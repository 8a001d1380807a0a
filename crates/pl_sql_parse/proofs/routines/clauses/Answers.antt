use Rattle.pl_sql_parse.specs.Grammar.{Clauses}
use Rattle.pl_sql_parse.proofs.Step.{reads_rule}
use Rattle.pl_sql_parse.proofs.routines.clauses.Goals as goal

pub returns : goal.returns
returns c = reads_rule Clauses _ _ _ c.all_pieces.ensures
