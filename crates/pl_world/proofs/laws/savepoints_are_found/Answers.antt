use Rattle.pl_world.proofs.Runs.{found}
use Rattle.pl_world.proofs.laws.savepoints_are_found.Goals as goal

pub returns : goal.returns
returns c = record { newest = found }
