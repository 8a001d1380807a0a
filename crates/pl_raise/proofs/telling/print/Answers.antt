use Rattle.std.proofs.Common.{◌∙◌, List, ℕ, refl, subst}
use Rattle.pl_asking.proofs.of_pl_engine.Joins.{before, lawful, refused}
use Rattle.pl_asking.specs.pl_engine.Answers.{Answers}
use Rattle.pl_asking.specs.pl_engine.Engines.{world}
use Rattle.pl_raise.proofs.telling.print.Goals as goal
use Rattle.pl_world.specs.Raising.{printed}

pub returns-in_err-lines : goal.returns-in_err-lines
returns-in_err-lines g c =
    let law = lawful g.P.Port g.met.P.Port.none g.met.P.Port.joins g.met.P.Port.rises in
    refused _ _ _ c.from_residual.ensures (before law refl)

pub returns : goal.returns
returns g c =
    let e = c.args.engine.now in
    subst (λ (b : List ℕ). Answers g.P.Port (printed b (world e)) c.say.result e e c.args.port.now c.say.new.port) (c.as_slice.ensures ∙ c.in_ok-lines.ensures) c.say.ensures
