use Rattle.std.proofs.Common.{rules}
use Rattle.pl_sql_parse.specs.Grammar.{Insert}
use Rattle.pl_sql_parse.proofs.Step.{gives, refused}
use Rattle.pl_sql_parse.proofs.readers.read_insert.Goals as goal

pub returns-in-Err : goal.returns-in-Err
returns-in-Err c = refused Insert _ _ (search rules)

pub returns-in-Err-table_name : goal.returns-in-Err-table_name
returns-in-Err-table_name c = refused Insert _ _ (search rules)

pub returns-in-Err-insert_alias : goal.returns-in-Err-insert_alias
returns-in-Err-insert_alias c = refused Insert _ _ (search rules)

pub returns-in-Err-columns : goal.returns-in-Err-columns
returns-in-Err-columns c = refused Insert _ _ (search rules)

pub returns-in-Err-new_rows : goal.returns-in-Err-new_rows
returns-in-Err-new_rows c = refused Insert _ _ (search rules)

pub returns-in-Err-returning : goal.returns-in-Err-returning
returns-in-Err-returning c = refused Insert _ _ (search rules)

pub returns : goal.returns
returns c = gives Insert _ _ (search rules)
