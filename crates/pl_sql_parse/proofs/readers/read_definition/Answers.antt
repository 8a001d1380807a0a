use Rattle.std.proofs.Common.{rules}
use Rattle.pl_sql_parse.specs.Grammar.{Definition}
use Rattle.pl_sql_parse.proofs.Step.{reads_rule, refused}
use Rattle.pl_sql_parse.proofs.readers.read_definition.Goals as goal

pub returns-then-eat : goal.returns-then-eat
returns-then-eat c = reads_rule Definition _ _ _ (search rules)

pub returns-in-Err : goal.returns-in-Err
returns-in-Err c = refused Definition _ _ (search rules)

pub returns : goal.returns
returns c = reads_rule Definition _ _ _ (search rules)
