use Rattle.std.proofs.Common.{Err, refl, subst}
use Rattle.pl_asking.proofs.Valued.{assigns, assigns_not, assigns_to}
use Rattle.pl_asking.proofs.assigning.assign_resolved.Goals as goal
use Rattle.pl_calling.proofs.of_pl_engine.Joins.{acted, answered, becomes, before, lawful, start}
use Rattle.pl_calling.specs.pl_engine.Engines.{world}
use Rattle.pl_calling.specs.pl_engine.Texts.{do_bodies}
use Rattle.pl_typing.specs.Resolved.{Gives}
use Rattle.pl_typing.specs.declared.fail.ScopeFail.{ScopeFail}
use Rattle.pl_world.specs.Resolving.{Variable, aiming}
use Rattle.pl_world.specs.Statements.{runner_for}

pub returns-in-Ok-clause-is : goal.returns-in-Ok-clause-is
returns-in-Ok-clause-is g c =
    let law = lawful g.P.Port g.met.P.Port.none g.met.P.Port.joins g.met.P.Port.rises in
    let r = runner_for do_bodies c.args.calls.now.room in
    let w = world c.args.engine.now in
    answered law _ _ _ (becomes law (start law (assigns r c.args.at c.args.target.now c.args.e.now w) c.args.engine.now c.args.port.now c.requires.fits)
    (assigns_to r c.args.at c.args.target.now c.args.e.now w c.in-Ok.to c.in-Ok.ensures)) c.assign_to.ensures.is

pub returns-in-Err-State-clause-is : goal.returns-in-Err-State-clause-is
returns-in-Err-State-clause-is g c =
    let law = lawful g.P.Port g.met.P.Port.none g.met.P.Port.joins g.met.P.Port.rises in
    let r = runner_for do_bodies c.args.calls.now.room in
    let w = world c.args.engine.now in
    let is = subst (λ (f : ScopeFail). Gives {A = Variable} (Err f) (aiming c.args.target.now w.database.objects w.frame.static)) c.in-Err-State.field-0-is c.in-Err-State.ensures in
    acted law (becomes law (start law (assigns r c.args.at c.args.target.now c.args.e.now w) c.args.engine.now c.args.port.now c.requires.fits)
    (assigns_not r c.args.at c.args.target.now c.args.e.now w c.in-Err-State.state is)) c.raise.ensures

pub returns-in-Err-Memory-clause-is : goal.returns-in-Err-Memory-clause-is
returns-in-Err-Memory-clause-is g c = before (lawful g.P.Port g.met.P.Port.none g.met.P.Port.joins g.met.P.Port.rises) refl
