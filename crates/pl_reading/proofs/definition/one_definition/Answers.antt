use Rattle.pl_reading.proofs.Definitions.{computed, found}
use Rattle.pl_reading.proofs.definition.one_definition.Goals as goal

pub returns : goal.returns
returns c = record { is = λ text table. (computed text table, found text table) }
