use Rattle.pl_world.proofs.Runs.{ended}
use Rattle.pl_world.proofs.laws.calls_end.Goals as goal

pub returns : goal.returns
returns c = record { world = ended }
