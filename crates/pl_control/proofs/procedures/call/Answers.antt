use Rattle.std.proofs.Common.{Err, Result, refl, subst}
use Rattle.pl_asking.proofs.Acts.{resolved_err, resolved_ok}
use Rattle.pl_control.proofs.procedures.call.Goals as goal
use Rattle.pl_control.specs.Called.{ResolvesTo}
use Rattle.pl_control.specs.declared.arguments.Procedure.{Procedure}
use Rattle.pl_engine.proofs.Joins.{acted, answered, becomes, before, lawful, start}
use Rattle.pl_engine.specs.Engines.{world}
use Rattle.pl_engine.specs.Texts.{do_bodies}
use Rattle.pl_typing.specs.declared.fail.ScopeFail.{ScopeFail}
use Rattle.pl_engine.specs.pl_world.Errors.{resolved}
use Rattle.pl_engine.specs.pl_world.Resolving.{Calling, calling}
use Rattle.pl_engine.specs.pl_world.Statements.{runner_for}
use Rattle.pl_engine.specs.pl_world.Transactions.{procedure_called}

pub returns-in-Ok-clause-is : goal.returns-in-Ok-clause-is
returns-in-Ok-clause-is g c =
    let law = lawful g.P.Port g.met.P.Port.none g.met.P.Port.joins g.met.P.Port.rises in
    let r = runner_for do_bodies c.args.runner.now.room in
    let w = world c.args.engine.now in
    let meaning = calling c.args.name c.args.arguments.now w.database.objects w.frame.static in
    let k = λ (p : Calling). procedure_called r c.args.at p w in
    let found = c.in-Ok.ensures in
    answered law _ _ _ (becomes law (start law (resolved meaning c.args.at w k) c.args.engine.now c.args.port.now c.requires.fits) (resolved_ok meaning c.args.at w k found.0 found.1)) (c.call_procedure.ensures.is found.0 found.2)

pub returns-in-Err-State-clause-is : goal.returns-in-Err-State-clause-is
returns-in-Err-State-clause-is g c =
    let law = lawful g.P.Port g.met.P.Port.none g.met.P.Port.joins g.met.P.Port.rises in
    let r = runner_for do_bodies c.args.runner.now.room in
    let w = world c.args.engine.now in
    let meaning = calling c.args.name c.args.arguments.now w.database.objects w.frame.static in
    let k = λ (p : Calling). procedure_called r c.args.at p w in
    let is = subst (λ (f : ScopeFail). let x : Result Procedure ScopeFail = Err f in ResolvesTo x meaning) c.in-Err-State.field-0-is c.in-Err-State.ensures in
    acted law (becomes law (start law (resolved meaning c.args.at w k) c.args.engine.now c.args.port.now c.requires.fits) (resolved_err meaning c.args.at w k c.in-Err-State.state is)) c.raise.ensures

pub returns-in-Err-Memory-clause-is : goal.returns-in-Err-Memory-clause-is
returns-in-Err-Memory-clause-is g c = before (lawful g.P.Port g.met.P.Port.none g.met.P.Port.joins g.met.P.Port.rises) refl
