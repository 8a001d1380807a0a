use Rattle.std.proofs.Common.{rules}
use Rattle.pl_sql_parse.specs.Grammar.{NewTable}
use Rattle.pl_sql_parse.proofs.Step.{gives, refused}
use Rattle.pl_sql_parse.proofs.tables.new_table.Goals as goal

pub returns-in-Err : goal.returns-in-Err
returns-in-Err c = refused NewTable _ _ (search rules)

pub returns-in-Err-table_name : goal.returns-in-Err-table_name
returns-in-Err-table_name c = refused NewTable _ _ (search rules)

pub returns-in-Err-expect : goal.returns-in-Err-expect
returns-in-Err-expect c = refused NewTable _ _ (search rules)

pub returns-in-Err-element_list : goal.returns-in-Err-element_list
returns-in-Err-element_list c = refused NewTable _ _ (search rules)

pub returns-in-Err-expect-2 : goal.returns-in-Err-expect-2
returns-in-Err-expect-2 c = refused NewTable _ _ (search rules)

pub returns : goal.returns
returns c = gives NewTable _ _ (search rules)
