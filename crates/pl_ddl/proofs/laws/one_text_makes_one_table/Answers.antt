use Rattle.pl_ddl.specs.DefinitionLaws.{alike, table}
use Rattle.pl_ddl.proofs.laws.one_text_makes_one_table.Goals as goal

pub returns-clause-table : goal.returns-clause-table
returns-clause-table c = table

pub returns-clause-alike : goal.returns-clause-alike
returns-clause-alike c = alike
