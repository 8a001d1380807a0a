use Rattle.pl_world.proofs.Runs.{stepless}
use Rattle.pl_world.proofs.laws.steps_end_at_any_depth.Goals as goal

pub returns : goal.returns
returns c = record { same = stepless }
