use Rattle.std.proofs.Common.{rules}
use Rattle.pl_sql_parse.specs.Grammar.{BracketedExpression}
use Rattle.pl_sql_parse.proofs.Step.{gives, refused}
use Rattle.pl_sql_parse.proofs.tables.bracketed_expression.Goals as goal

pub returns-in-Err : goal.returns-in-Err
returns-in-Err c = refused BracketedExpression _ _ (search rules)

pub returns-in-Err-read_expression : goal.returns-in-Err-read_expression
returns-in-Err-read_expression c = refused BracketedExpression _ _ (search rules)

pub returns-in-Err-expect : goal.returns-in-Err-expect
returns-in-Err-expect c = refused BracketedExpression _ _ (search rules)

pub returns : goal.returns
returns c = gives BracketedExpression _ _ (search rules)
