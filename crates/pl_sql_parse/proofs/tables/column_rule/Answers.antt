use Rattle.std.proofs.Common.{rules}
use Rattle.pl_sql_parse.specs.Grammar.{ColumnRule}
use Rattle.pl_sql_parse.proofs.Step.{gives, refused}
use Rattle.pl_sql_parse.proofs.tables.column_rule.Goals as goal

pub returns-in-Err : goal.returns-in-Err
returns-in-Err c = refused ColumnRule _ _ (search rules)

pub returns-in-Err-column_rule_kind : goal.returns-in-Err-column_rule_kind
returns-in-Err-column_rule_kind c = refused ColumnRule _ _ (search rules)

pub returns-then-eat : goal.returns-then-eat
returns-then-eat c = gives ColumnRule _ _ (search rules)

pub returns-in-Err-column_rule_kind-2 : goal.returns-in-Err-column_rule_kind-2
returns-in-Err-column_rule_kind-2 c = refused ColumnRule _ _ (search rules)

pub returns : goal.returns
returns c = gives ColumnRule _ _ (search rules)
