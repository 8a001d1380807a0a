use Rattle.std.proofs.Common.{rules}
use Rattle.pl_sql_parse.specs.Grammar.{Returning}
use Rattle.pl_sql_parse.proofs.Step.{gives, reads_rule}
use Rattle.pl_sql_parse.proofs.changes.returning.Goals as goal

pub returns-then-not-eat : goal.returns-then-not-eat
returns-then-not-eat c = gives Returning _ _ (search rules)

pub returns : goal.returns
returns c = reads_rule Returning _ _ _ (search rules)
