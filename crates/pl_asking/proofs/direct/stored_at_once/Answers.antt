use Rattle.pl_asking.proofs.AtOnce.{assigned_at_once}
use Rattle.pl_asking.proofs.direct.stored_at_once.Goals as goal
use Rattle.pl_calling.specs.pl_engine.Engines.{world}

pub returns : goal.returns
returns c = assigned_at_once c.args.target.now c.args.e.now (world c.args.engine.now) _ _ _ c.in_ok-spot.ensures c.in_ok-known.ensures c.in_ok-value.ensures
