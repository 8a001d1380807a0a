use Rattle.std.proofs.Common.{refl}
use Rattle.pl_calling.proofs.trial.try_value.Goals as goal
use Rattle.pl_calling.specs.Standing.{fresh}
use Rattle.pl_engine.specs.Engines.{world}

-- there was no memory, so that nothing is said of what was read
pub returns-in-Err : goal.returns-in-Err
returns-in-Err g c = (fresh c.args.at c.args.room (world c.args.engine.now), record { world = refl; said = refl; spent = refl; failure = refl }, tt)
