use Rattle.std.proofs.Common.{rules}
use Rattle.pl_sql_parse.specs.Grammar.{ColumnRuleKind}
use Rattle.pl_sql_parse.proofs.Step.{gives, reads_rule, refused}
use Rattle.pl_sql_parse.proofs.tables.column_rule_kind.Goals as goal

pub returns-in-Err : goal.returns-in-Err
returns-in-Err c = refused ColumnRuleKind _ _ (search rules)

pub returns-then-eat : goal.returns-then-eat
returns-then-eat c = gives ColumnRuleKind _ _ (search rules)

pub returns-then-eat-2 : goal.returns-then-eat-2
returns-then-eat-2 c = gives ColumnRuleKind _ _ (search rules)

pub returns-in-Err-read_operand : goal.returns-in-Err-read_operand
returns-in-Err-read_operand c = refused ColumnRuleKind _ _ (search rules)

pub returns-then-eat-3 : goal.returns-then-eat-3
returns-then-eat-3 c = gives ColumnRuleKind _ _ (search rules)

pub returns : goal.returns
returns c = reads_rule ColumnRuleKind _ _ _ (search rules)
