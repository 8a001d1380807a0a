use Rattle.std.proofs.Common.{◌∙◌, ap}
use Rattle.std.proofs.lemmas.Option.{IfSome_then}
use Rattle.pl_asking.proofs.AtOnce.{aims_at}
use Rattle.pl_asking.proofs.direct.aim_at_once.Goals as goal
use Rattle.pl_calling.specs.pl_engine.Engines.{world}
use Rattle.pl_world.specs.World.{Static}

pub returns-in-None : goal.returns-in-None
returns-in-None c = IfSome_then c.direct_variable.result c.direct_variable.ensures (λ spot stands.
    aims_at c.args.target.now (world c.args.engine.now) spot _ c.in-None.is (c.scope.ensures ∙ ap (λ (s : Static). s.scope) c.declared.ensures) stands)
