use Rattle.pl_world.proofs.Runs.{as_many}
use Rattle.pl_world.proofs.laws.parameters_have_values.Goals as goal

pub returns : goal.returns
returns c = record { each = as_many }
