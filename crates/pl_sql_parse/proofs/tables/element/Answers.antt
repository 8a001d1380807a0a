use Rattle.std.proofs.Common.{rules}
use Rattle.pl_sql_parse.specs.Grammar.{Element}
use Rattle.pl_sql_parse.proofs.Step.{gives, reads_rule, refused}
use Rattle.pl_sql_parse.proofs.tables.element.Goals as goal

pub returns-in-Err : goal.returns-in-Err
returns-in-Err c = refused Element _ _ (search rules)

pub returns-in-Err-table_rule : goal.returns-in-Err-table_rule
returns-in-Err-table_rule c = refused Element _ _ (search rules)

pub returns-then-eat : goal.returns-then-eat
returns-then-eat c = gives Element _ _ (search rules)

pub returns-in-Err-table_rule-2 : goal.returns-in-Err-table_rule-2
returns-in-Err-table_rule-2 c = refused Element _ _ (search rules)

pub returns-then-begins : goal.returns-then-begins
returns-then-begins c = gives Element _ _ (search rules)

pub returns : goal.returns
returns c = reads_rule Element _ _ _ (search rules)
