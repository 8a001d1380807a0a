use Rattle.std.proofs.Common.{refl}
use Rattle.pl_asking.proofs.Acts.{quiet_is, quiet_step}
use Rattle.pl_asking.proofs.AtOnce.{of_some}
use Rattle.pl_asking.proofs.Valued.{assigns}
use Rattle.pl_asking.proofs.assigning.assign.Goals as goal
use Rattle.pl_asking.specs.Values.{AssignedAtOnce}
use Rattle.pl_asking.specs.declared.direct.Stored.{Stored}
use Rattle.pl_calling.proofs.of_pl_engine.Joins.{acted, lawful, start}
use Rattle.pl_calling.specs.pl_engine.Engines.{world}
use Rattle.pl_calling.specs.pl_engine.Texts.{do_bodies}
use Rattle.pl_world.specs.Statements.{runner_for}
use Rattle.pl_world.specs.declared.outcome.Outcome.TheVariants as outcome

pub returns-in-Some-clause-is : goal.returns-in-Some-clause-is
returns-in-Some-clause-is g c =
    let law = lawful g.P.Port g.met.P.Port.none g.met.P.Port.joins g.met.P.Port.rises in
    let r = runner_for do_bodies c.args.calls.now.room in
    let w = world c.args.engine.now in
    acted law (start law (assigns r c.args.at c.args.target.now c.args.e.now w) c.args.engine.now c.args.port.now c.requires.fits)
    (quiet_is outcome.Next c.args.engine.now c.set.new.self
    (of_some (λ (s : Stored). AssignedAtOnce c.args.target.now c.args.e.now w s.column s.value) c.stored_at_once.result c.in-Some.stored c.in-Some.is c.stored_at_once.ensures r c.args.at)
    (quiet_step c.args.engine.now c.set.new.self c.set.ensures.is refl refl))
