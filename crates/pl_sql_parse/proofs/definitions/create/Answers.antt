use Rattle.std.proofs.Common.{rules}
use Rattle.pl_sql_parse.specs.Grammar.{Create}
use Rattle.pl_sql_parse.proofs.Step.{reads_rule}
use Rattle.pl_sql_parse.proofs.definitions.create.Goals as goal

pub returns-then-eat : goal.returns-then-eat
returns-then-eat c = reads_rule Create _ _ _ (search rules)

pub returns-then-eat-2 : goal.returns-then-eat-2
returns-then-eat-2 c = reads_rule Create _ _ _ (search rules)

pub returns : goal.returns
returns c = reads_rule Create _ _ _ (search rules)
