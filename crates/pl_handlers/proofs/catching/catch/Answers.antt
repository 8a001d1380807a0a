use Rattle.pl_bodies.specs.declared.statement.Block.{out-Block}
use Rattle.pl_flow.proofs.of_pl_engine.Joins.{lawful}
use Rattle.pl_flow.specs.pl_engine.Handling.{kept_at}
use Rattle.pl_handlers.proofs.Handled.{unfailed}
use Rattle.pl_conditions.specs.pl_world.Statements.{runner_for}
use Rattle.pl_flow.specs.pl_engine.Texts.{do_bodies}
use Rattle.pl_handlers.proofs.catching.catch.Goals as goal

pub returns-in_default-clause-is : goal.returns-in_default-clause-is
returns-in_default-clause-is g c =
    let law = lawful g.P.Port g.met.P.Port.none g.met.P.Port.joins g.met.P.Port.rises in
    let r = runner_for do_bodies c.args.runner.now.room in
    unfailed law r (out-Block c.args.block.now).label (out-Block c.args.block.now).handlers (kept_at c.args.mark.at c.args.engine.now) c.args.engine.now c.args.port.now c.requires.fits c.unprotect.new.self c.args.end c.in_default.not-Fail c.unprotect.ensures.is
