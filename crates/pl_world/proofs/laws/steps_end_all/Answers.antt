use Rattle.pl_world.proofs.Runs.{unmatched}
use Rattle.pl_world.proofs.laws.steps_end_all.Goals as goal

pub returns : goal.returns
returns c = record { unmatched = unmatched }
