use Rattle.std.proofs.Common.{subst}
use Rattle.pl_asking.proofs.converting.raise_in_run.Goals as goal
use Rattle.pl_base.specs.declared.state.State.{State}
use Rattle.pl_calling.specs.pl_engine.Engines.{Quiet, world}
use Rattle.pl_world.specs.Errors.{raised}

pub returns : goal.returns
returns c = subst (λ (s : State). Quiet (raised s c.args.at (world c.args.engine.now)) c.raise.result c.args.engine.now c.args.engine.now) c.run_state.ensures c.raise.ensures
