use Rattle.pl_world.proofs.Runs.{keeps}
use Rattle.pl_world.proofs.laws.protection_keeps.Goals as goal

pub returns : goal.returns
returns c = record { database = keeps }
