use Rattle.pl_asking.proofs.AtOnce.{at_once}
use Rattle.pl_asking.proofs.direct.value_at_once.Goals as goal
use Rattle.pl_calling.specs.pl_engine.Engines.{world}

pub returns : goal.returns
returns c = at_once c.args.e.now (world c.args.engine.now) _ _ c.in_ok-known.ensures c.value.ensures
