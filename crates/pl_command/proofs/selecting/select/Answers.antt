use Rattle.std.proofs.Common.{Err, List, Result, ap, refl, subst, sym}
use Rattle.pl_command.proofs.Resolves.{found, refused}
use Rattle.pl_command.proofs.selecting.select.Goals as goal
use Rattle.pl_command.specs.Shown.{selected}
use Rattle.pl_control.proofs.of_pl_engine.Joins.{answered, becomes, before, lawful}
use Rattle.pl_control.specs.pl_engine.Engines.{world}
use Rattle.pl_control.specs.pl_engine.Texts.{do_bodies}
use Rattle.pl_resolved.specs.declared.query.RQuery.{RQuery}
use Rattle.pl_typing.specs.Resolved.{Gives}
use Rattle.pl_typing.specs.declared.fail.ScopeFail.{ScopeFail}
use Rattle.pl_world.specs.Resolving.{querying}
use Rattle.pl_world.specs.Sessions.{top}
use Rattle.pl_world.specs.Statements.{runner_for}

pub returns-in-Ok-clause-is : goal.returns-in-Ok-clause-is
returns-in-Ok-clause-is g c =
    let law = lawful g.P.Port g.met.P.Port.none g.met.P.Port.joins g.met.P.Port.rises in
    let w = world c.args.engine.now in
    let k = λ (qs : List RQuery). selected (runner_for do_bodies c.args.calls.now.room) qs w in
    let meaning = querying c.args.q.now w.database.objects w.frame.static in
    answered law _ _ _ (becomes law (found meaning top k law c.requires.fits c.in-Ok.queries c.in-Ok.ensures) (ap k (sym c.get.ensures))) c.select_rows.ensures.is

pub returns-in-Err-State-clause-is : goal.returns-in-Err-State-clause-is
returns-in-Err-State-clause-is g c =
    let law = lawful g.P.Port g.met.P.Port.none g.met.P.Port.joins g.met.P.Port.rises in
    let w = world c.args.engine.now in
    let k = λ (qs : List RQuery). selected (runner_for do_bodies c.args.calls.now.room) qs w in
    let meaning = querying c.args.q.now w.database.objects w.frame.static in
    let is = subst (λ (f : ScopeFail). let x : Result (List RQuery) ScopeFail = Err f in Gives x meaning) c.in-Err-State.field-0-is c.in-Err-State.ensures in
    refused meaning top k law c.requires.fits c.in-Err-State.state c.fails.result is c.fails.ensures

pub returns-in-Err-Memory-clause-is : goal.returns-in-Err-Memory-clause-is
returns-in-Err-Memory-clause-is g c = before (lawful g.P.Port g.met.P.Port.none g.met.P.Port.joins g.met.P.Port.rises) refl
