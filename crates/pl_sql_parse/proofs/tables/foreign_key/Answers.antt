use Rattle.std.proofs.Common.{rules}
use Rattle.pl_sql_parse.specs.Grammar.{ForeignKey}
use Rattle.pl_sql_parse.proofs.Step.{gives, refused}
use Rattle.pl_sql_parse.proofs.tables.foreign_key.Goals as goal

pub returns-in-Err : goal.returns-in-Err
returns-in-Err c = refused ForeignKey _ _ (search rules)

pub returns-in-Err-expect : goal.returns-in-Err-expect
returns-in-Err-expect c = refused ForeignKey _ _ (search rules)

pub returns-in-Err-table_name : goal.returns-in-Err-table_name
returns-in-Err-table_name c = refused ForeignKey _ _ (search rules)

pub returns-in-Err-columns : goal.returns-in-Err-columns
returns-in-Err-columns c = refused ForeignKey _ _ (search rules)

pub returns : goal.returns
returns c = gives ForeignKey _ _ (search rules)
