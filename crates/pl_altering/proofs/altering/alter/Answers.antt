use Rattle.std.proofs.Common.{Err, Result, refl, subst}
use Rattle.pl_altering.proofs.altering.alter.Goals as goal
use Rattle.pl_querying.proofs.of_pl_asking.Acts.{resolved_err, resolved_ok}
use Rattle.pl_querying.proofs.of_pl_engine.Joins.{acted, answered, becomes, before, lawful, same_world, start}
use Rattle.pl_querying.specs.pl_engine.Engines.{world}
use Rattle.pl_querying.specs.pl_engine.Texts.{do_bodies}
use Rattle.pl_typing.specs.Resolved.{Gives}
use Rattle.pl_typing.specs.declared.fail.ScopeFail.{ScopeFail}
use Rattle.pl_world.specs.Commands.{Altering, altered, altering}
use Rattle.pl_world.specs.Errors.{raised, resolved}
use Rattle.pl_world.specs.Statements.{runner_for, targets_in}
use Rattle.pl_world.specs.World.{World}

pub returns-in-Ok-clause-is : goal.returns-in-Ok-clause-is
returns-in-Ok-clause-is g c =
    let law = lawful g.P.Port g.met.P.Port.none g.met.P.Port.joins g.met.P.Port.rises in
    let w = world c.args.engine.now in
    let k = λ (a : Altering). altered (runner_for do_bodies c.args.calls.now.room) c.args.at c.args.into.now a w in
    let meaning = altering c.args.c.now (targets_in c.args.into.now) w.database.objects w.frame.static in
    let way = becomes law (start law (resolved meaning c.args.at w k) c.args.engine.now c.args.port.now c.requires.fits) (resolved_ok meaning c.args.at w k c.in-Ok.a c.in-Ok.ensures.gives) in
    answered law _ _ _ (same_world law {new = c.resolve_into.new.engine} way c.in-Ok.ensures.is (λ (x : World). altered (runner_for do_bodies c.args.calls.now.room) c.args.at c.args.into.now c.in-Ok.a x) refl) c.alter_resolved.ensures.is

pub returns-in-Err-State-clause-is : goal.returns-in-Err-State-clause-is
returns-in-Err-State-clause-is g c =
    let law = lawful g.P.Port g.met.P.Port.none g.met.P.Port.joins g.met.P.Port.rises in
    let w = world c.args.engine.now in
    let k = λ (a : Altering). altered (runner_for do_bodies c.args.calls.now.room) c.args.at c.args.into.now a w in
    let meaning = altering c.args.c.now (targets_in c.args.into.now) w.database.objects w.frame.static in
    let is = subst (λ (f : ScopeFail). let x : Result Altering ScopeFail = Err f in Gives x meaning) c.in-Err-State.field-0-is c.in-Err-State.ensures.gives in
    let way = becomes law (start law (resolved meaning c.args.at w k) c.args.engine.now c.args.port.now c.requires.fits) (resolved_err meaning c.args.at w k c.in-Err-State.state is) in
    acted law (same_world law {new = c.resolve_into.new.engine} way c.in-Err-State.ensures.is (λ (x : World). raised c.in-Err-State.state c.args.at x) refl) c.raise.ensures

pub returns-in-Err-Memory-clause-is : goal.returns-in-Err-Memory-clause-is
returns-in-Err-Memory-clause-is g c = before (lawful g.P.Port g.met.P.Port.none g.met.P.Port.joins g.met.P.Port.rises) refl
