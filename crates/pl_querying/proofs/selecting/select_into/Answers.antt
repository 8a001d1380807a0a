use Rattle.std.proofs.Common.{◌≡◌, ◌∙◌, Err, List, Ok, Result, ap, refl, subst, sym}
use Rattle.pl_asking.proofs.Acts.{resolved_err, resolved_ok}
use Rattle.pl_bodies.specs.declared.simple.Target.{Target}
use Rattle.pl_asking.proofs.of_pl_engine.Joins.{acted, answered, becomes, before, lawful, same_world, start}
use Rattle.pl_asking.specs.pl_engine.Engines.{world}
use Rattle.pl_asking.specs.pl_engine.Texts.{do_bodies}
use Rattle.pl_querying.proofs.selecting.select_into.Goals as goal
use Rattle.pl_typing.specs.Resolved.{Gives}
use Rattle.pl_typing.specs.declared.fail.ScopeFail.{ScopeFail}
use Rattle.pl_world.specs.Commands.{Selecting, selected, selecting}
use Rattle.pl_world.specs.Errors.{raised, resolved}
use Rattle.pl_world.specs.Statements.{runner_for}
use Rattle.pl_world.specs.World.{World}

pub returns-in-Ok-clause-is : goal.returns-in-Ok-clause-is
returns-in-Ok-clause-is g c =
    let law = lawful g.P.Port g.met.P.Port.none g.met.P.Port.joins g.met.P.Port.rises in
    let w = world c.args.engine.now in
    let k = λ (s : Selecting). selected (runner_for do_bodies c.args.calls.now.room) c.args.at c.args.clause.now.is_strict s w in
    let meaning = selecting c.args.q.now c.args.clause.now.targets w.database.objects w.frame.static in
    let is : meaning ≡ Ok c.in-Ok.s = ap (λ (ts : List Target). selecting c.args.q.now ts w.database.objects w.frame.static) (sym c.as_slice.ensures) ∙ c.in-Ok.ensures.gives in
    let way = becomes law (start law (resolved meaning c.args.at w k) c.args.engine.now c.args.port.now c.requires.fits) (resolved_ok meaning c.args.at w k c.in-Ok.s is) in
    answered law _ _ _ (same_world law {new = c.resolve_into.new.engine} way c.in-Ok.ensures.is (λ (x : World). selected (runner_for do_bodies c.args.calls.now.room) c.args.at c.args.clause.now.is_strict c.in-Ok.s x) refl) c.select.ensures.is

pub returns-in-Err-State-clause-is : goal.returns-in-Err-State-clause-is
returns-in-Err-State-clause-is g c =
    let law = lawful g.P.Port g.met.P.Port.none g.met.P.Port.joins g.met.P.Port.rises in
    let w = world c.args.engine.now in
    let k = λ (s : Selecting). selected (runner_for do_bodies c.args.calls.now.room) c.args.at c.args.clause.now.is_strict s w in
    let meaning = selecting c.args.q.now c.args.clause.now.targets w.database.objects w.frame.static in
    let fails : selecting c.args.q.now c.as_slice.result.now w.database.objects w.frame.static ≡ Err c.in-Err-State.state =
    subst (λ (f : ScopeFail). let x : Result Selecting ScopeFail = Err f in Gives x (selecting c.args.q.now c.as_slice.result.now w.database.objects w.frame.static)) c.in-Err-State.field-0-is c.in-Err-State.ensures.gives in
    let is : meaning ≡ Err c.in-Err-State.state = ap (λ (ts : List Target). selecting c.args.q.now ts w.database.objects w.frame.static) (sym c.as_slice.ensures) ∙ fails in
    let way = becomes law (start law (resolved meaning c.args.at w k) c.args.engine.now c.args.port.now c.requires.fits) (resolved_err meaning c.args.at w k c.in-Err-State.state is) in
    acted law (same_world law {new = c.resolve_into.new.engine} way c.in-Err-State.ensures.is (λ (x : World). raised c.in-Err-State.state c.args.at x) refl) c.raise.ensures

pub returns-in-Err-Memory-clause-is : goal.returns-in-Err-Memory-clause-is
returns-in-Err-Memory-clause-is g c = before (lawful g.P.Port g.met.P.Port.none g.met.P.Port.joins g.met.P.Port.rises) refl
