use Rattle.pl_sql_parse.specs.Grammar.{ColumnRules}
use Rattle.pl_sql_parse.proofs.Step.{reads_rule}
use Rattle.pl_sql_parse.proofs.tables.column_rules.Goals as goal

pub returns : goal.returns
returns c = reads_rule ColumnRules _ _ _ c.all_pieces.ensures
