use Rattle.pl_ddl.specs.DefinitionLaws.{new, there}
use Rattle.pl_ddl.proofs.laws.definitions_suit_the_objects.Goals as goal

pub returns-clause-new : goal.returns-clause-new
returns-clause-new c = new

pub returns-clause-there : goal.returns-clause-there
returns-clause-there c = there
