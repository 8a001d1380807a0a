use Rattle.std.proofs.Common.{subst}
use Rattle.pl_asking.specs.pl_engine.Engines.{world}
use Rattle.pl_raise.proofs.texts.text_here.Goals as goal
use Rattle.pl_raise.specs.Finding.{FindsHere}
use Rattle.pl_typing.specs.Resolved.{Resolved}
use Rattle.pl_world.specs.Conversions.{settled}
use Rattle.pl_world.specs.Raising.{Text}

pub returns : goal.returns
returns c =
    subst (λ (t : Resolved Text). FindsHere (settled t c.args.at (world c.args.engine.now)) c.settle.result c.args.engine.now) c.in_ok-text.ensures c.settle.ensures
