use Rattle.std.proofs.Common.{rules}
use Rattle.pl_sql_parse.specs.Grammar.{NamedType}
use Rattle.pl_sql_parse.proofs.Step.{gives, refused}
use Rattle.pl_sql_parse.proofs.routines.named_type.Goals as goal

pub returns-in-Err : goal.returns-in-Err
returns-in-Err c = refused NamedType _ _ (search rules)

pub returns-in-Err-read_type : goal.returns-in-Err-read_type
returns-in-Err-read_type c = refused NamedType _ _ (search rules)

pub returns-then-sees_two : goal.returns-then-sees_two
returns-then-sees_two c = gives NamedType _ _ (search rules)

pub returns-in-Err-read_type-2 : goal.returns-in-Err-read_type-2
returns-in-Err-read_type-2 c = refused NamedType _ _ (search rules)

pub returns : goal.returns
returns c = gives NamedType _ _ (search rules)
