use Rattle.std.proofs.Common.{subst}
use Rattle.pl_command.proofs.Bodies.{ran_done, ran_stopped}
use Rattle.pl_command.proofs.running.call_it.Goals as goal
use Rattle.pl_control.proofs.of_pl_engine.Joins.{lawful}
use Rattle.pl_control.specs.pl_engine.Answers.{Done, Stopped}
use Rattle.pl_control.specs.pl_engine.Engines.{world}
use Rattle.pl_control.specs.pl_engine.Texts.{do_bodies}
use Rattle.pl_print.specs.declared.reply.Tag.TheVariants.{Call}
use Rattle.pl_world.specs.Errors.{Spot}
use Rattle.pl_world.specs.Statements.{runner_for}
use Rattle.pl_world.specs.Transactions.{procedure_called}

pub returns-in-Ok-clause-is : goal.returns-in-Ok-clause-is
returns-in-Ok-clause-is g c = λ callee names.
    let law = lawful g.P.Port g.met.P.Port.none g.met.P.Port.joins g.met.P.Port.rises in
    let r = runner_for do_bodies c.args.runner.now.room in
    ran_done law Call c.requires.fits c.ran_body.ensures
    (subst (λ (at : Spot). Done g.P.Port (procedure_called r at callee (world c.args.engine.now)) c.in-Ok.end c.args.engine.now c.call_procedure.new.engine c.args.port.now c.call_procedure.new.port) c.top.ensures (c.in-Ok.ensures.is callee names))

pub returns-in-Err-clause-is : goal.returns-in-Err-clause-is
returns-in-Err-clause-is g c = λ callee names.
    let law = lawful g.P.Port g.met.P.Port.none g.met.P.Port.joins g.met.P.Port.rises in
    let r = runner_for do_bodies c.args.runner.now.room in
    ran_stopped law Call
    (subst (λ (at : Spot). Stopped g.P.Port (procedure_called r at callee (world c.args.engine.now)) c.in-Err.stop c.args.engine.now c.args.port.now c.call_procedure.new.port) c.top.ensures (c.in-Err.ensures.is callee names))
