use Rattle.std.proofs.Common.{subst}
use Rattle.std.specs.Option.{option_copied}
use Rattle.pl_engine.specs.pl_world.World.{World}
use Rattle.pl_quick.proofs.quick.round_for.Goals as goal
use Rattle.pl_quick.specs.Acts.{IsReadIf}

pub returns-clause-fits : goal.returns-clause-fits
returns-clause-fits c =
    (subst (λ (w : World). IsReadIf c.in_ok-condition.condition (option_copied c.args.condition) w) c.in_ok-acts.ensures.is c.in_ok-condition.ensures.reads, (16, c.in_ok-acts.ensures.acts))
