use Rattle.pl_define.proofs.Done.{added_new, dropped_there, replaced_routine, replaced_there}
use Rattle.pl_define.proofs.laws.definitions_suit_the_objects.Goals as goal

pub returns-clause-new : goal.returns-clause-new
returns-clause-new c = added_new

pub returns-clause-there : goal.returns-clause-there
returns-clause-there c = dropped_there

pub returns-clause-replaced : goal.returns-clause-replaced
returns-clause-replaced c = replaced_there

pub returns-clause-routine : goal.returns-clause-routine
returns-clause-routine c = replaced_routine
