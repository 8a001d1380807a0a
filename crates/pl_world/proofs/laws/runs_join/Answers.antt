use Rattle.pl_world.proofs.Runs.{joined, joined_world}
use Rattle.pl_world.proofs.laws.runs_join.Goals as goal

pub returns : goal.returns
returns c = record { events = joined; world = joined_world }
