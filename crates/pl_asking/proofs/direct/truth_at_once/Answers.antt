use Rattle.std.proofs.Common.{subst}
use Rattle.pl_asking.proofs.AtOnce.{tested_at_once}
use Rattle.pl_asking.proofs.direct.truth_at_once.Goals as goal
use Rattle.pl_asking.specs.Values.{DirectlyIs}
use Rattle.pl_direct.specs.declared.known.Known.{Known}
use Rattle.pl_calling.specs.pl_engine.Engines.{world}

pub returns-in-Bool : goal.returns-in-Bool
returns-in-Bool c =
    let w = world c.args.engine.now in
    tested_at_once c.args.e.now w c.in-Bool.truth (subst (λ (k : Known). DirectlyIs c.args.e.now w k) c.in-Bool.is c.in_ok-truth.ensures)
