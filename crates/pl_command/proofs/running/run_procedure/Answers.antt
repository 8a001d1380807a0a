use Rattle.std.proofs.Common.{Err, Result, refl, subst}
use Rattle.pl_command.proofs.Resolves.{found, refused}
use Rattle.pl_command.proofs.running.run_procedure.Goals as goal
use Rattle.pl_control.specs.Called.{ResolvesTo}
use Rattle.pl_control.specs.declared.arguments.Procedure.{Procedure}
use Rattle.pl_control.proofs.of_pl_engine.Joins.{answered, before, lawful}
use Rattle.pl_control.specs.pl_engine.Engines.{world}
use Rattle.pl_control.specs.pl_engine.Texts.{do_bodies}
use Rattle.pl_print.specs.declared.reply.Tag.TheVariants.{Call}
use Rattle.pl_typing.specs.declared.fail.ScopeFail.{ScopeFail}
use Rattle.pl_world.specs.Resolving.{Calling, calling}
use Rattle.pl_world.specs.Sessions.{ran_body, top}
use Rattle.pl_world.specs.Statements.{runner_for}
use Rattle.pl_world.specs.Transactions.{procedure_called}
use Rattle.pl_world.specs.World.{and_then}

pub returns-in-Ok-clause-is : goal.returns-in-Ok-clause-is
returns-in-Ok-clause-is g c =
    let law = lawful g.P.Port g.met.P.Port.none g.met.P.Port.joins g.met.P.Port.rises in
    let r = runner_for do_bodies c.args.runner.now.room in
    let w = world c.args.engine.now in
    let meaning = calling c.args.name c.args.arguments.now w.database.objects w.frame.static in
    let k = λ (p : Calling). and_then (procedure_called r top p w) (ran_body Call) in
    let names = c.in-Ok.ensures in
    answered law _ _ _ (found meaning top k law c.requires.fits names.0 names.1) (c.call_it.ensures.is names.0 names.2)

pub returns-in-Err-State-clause-is : goal.returns-in-Err-State-clause-is
returns-in-Err-State-clause-is g c =
    let law = lawful g.P.Port g.met.P.Port.none g.met.P.Port.joins g.met.P.Port.rises in
    let r = runner_for do_bodies c.args.runner.now.room in
    let w = world c.args.engine.now in
    let meaning = calling c.args.name c.args.arguments.now w.database.objects w.frame.static in
    let k = λ (p : Calling). and_then (procedure_called r top p w) (ran_body Call) in
    let is = subst (λ (f : ScopeFail). let x : Result Procedure ScopeFail = Err f in ResolvesTo x meaning) c.in-Err-State.field-0-is c.in-Err-State.ensures in
    refused meaning top k law c.requires.fits c.in-Err-State.state c.fails.result is c.fails.ensures

pub returns-in-Err-Memory-clause-is : goal.returns-in-Err-Memory-clause-is
returns-in-Err-Memory-clause-is g c = before (lawful g.P.Port g.met.P.Port.none g.met.P.Port.joins g.met.P.Port.rises) refl
