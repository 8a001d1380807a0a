use Rattle.std.proofs.Common.{rules}
use Rattle.pl_sql_parse.specs.Grammar.{Delete}
use Rattle.pl_sql_parse.proofs.Step.{gives, refused}
use Rattle.pl_sql_parse.proofs.readers.read_delete.Goals as goal

pub returns-in-Err : goal.returns-in-Err
returns-in-Err c = refused Delete _ _ (search rules)

pub returns-in-Err-table_name : goal.returns-in-Err-table_name
returns-in-Err-table_name c = refused Delete _ _ (search rules)

pub returns-in-Err-read_alias : goal.returns-in-Err-read_alias
returns-in-Err-read_alias c = refused Delete _ _ (search rules)

pub returns-in-Err-condition : goal.returns-in-Err-condition
returns-in-Err-condition c = refused Delete _ _ (search rules)

pub returns-in-Err-returning : goal.returns-in-Err-returning
returns-in-Err-returning c = refused Delete _ _ (search rules)

pub returns : goal.returns
returns c = gives Delete _ _ (search rules)
