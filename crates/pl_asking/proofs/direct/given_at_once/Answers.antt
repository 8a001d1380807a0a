use Rattle.std.proofs.Common.{◌∙◌, ap, sym}
use Rattle.pl_asking.proofs.AtOnce.{given_at_once}
use Rattle.pl_asking.proofs.direct.given_at_once.Goals as goal
use Rattle.pl_calling.specs.pl_engine.Engines.{world}
use Rattle.pl_world.specs.World.{Static}

pub returns-in_ok-known-in-Some : goal.returns-in_ok-known-in-Some
returns-in_ok-known-in-Some c =
    given_at_once c.args.e.now (world c.args.engine.now) _ _ _ (sym (c.result.ensures ∙ ap (λ (s : Static). s.result) c.declared.ensures) ∙ c.in-Some.is) c.in_ok-known-in-Some.ensures c.value.ensures
