use Rattle.std.proofs.Common.{rules}
use Rattle.pl_sql_parse.specs.Grammar.{Drop}
use Rattle.pl_sql_parse.proofs.Step.{gives, reads_rule, refused}
use Rattle.pl_sql_parse.proofs.drops.drop_object.Goals as goal

pub returns-in-Err : goal.returns-in-Err
returns-in-Err c = refused Drop _ _ (search rules)

pub returns-in-Err-table_name : goal.returns-in-Err-table_name
returns-in-Err-table_name c = refused Drop _ _ (search rules)

pub returns-then-eat : goal.returns-then-eat
returns-then-eat c = gives Drop _ _ (search rules)

pub returns-in-Err-if_exists : goal.returns-in-Err-if_exists
returns-in-Err-if_exists c = refused Drop _ _ (search rules)

pub returns-in-Err-name : goal.returns-in-Err-name
returns-in-Err-name c = refused Drop _ _ (search rules)

pub returns-in-Err-expect : goal.returns-in-Err-expect
returns-in-Err-expect c = refused Drop _ _ (search rules)

pub returns-in-Err-table_name-2 : goal.returns-in-Err-table_name-2
returns-in-Err-table_name-2 c = refused Drop _ _ (search rules)

pub returns-then-eat-2 : goal.returns-then-eat-2
returns-then-eat-2 c = gives Drop _ _ (search rules)

pub returns : goal.returns
returns c = reads_rule Drop _ _ _ (search rules)
