use Rattle.std.proofs.Common.{◌∙◌, ap, subst}
use Rattle.pl_asking.specs.pl_engine.Engines.{world}
use Rattle.pl_raise.proofs.raising.message.Goals as goal
use Rattle.pl_raise.specs.Finding.{FindsHere}
use Rattle.pl_typing.specs.Resolved.{Resolved}
use Rattle.pl_world.specs.Conversions.{settled}
use Rattle.pl_world.specs.Raising.{Text, formatted, within_limit}

pub returns : goal.returns
returns c =
    subst (λ (t : Resolved Text). FindsHere (settled t c.args.at (world c.args.engine.now)) c.settle.result c.args.engine.now) (c.within_limit.ensures ∙ ap (λ (t : Text). within_limit t) (c.in_ok-text.ensures ∙ ap (λ (t : Text). formatted t c.args.texts.now) c.as_bytes.ensures)) c.settle.ensures
