use Rattle.pl_sql_parse.specs.Grammar.{Names}
use Rattle.pl_sql_parse.proofs.Step.{reads_rule}
use Rattle.pl_sql_parse.proofs.changes.names.Goals as goal

pub returns : goal.returns
returns c = reads_rule Names _ _ _ c.pieces.ensures
