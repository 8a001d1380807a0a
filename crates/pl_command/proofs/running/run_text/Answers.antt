use Rattle.std.proofs.Common.{subst}
use Rattle.pl_command.proofs.Bodies.{ran_done, ran_stopped}
use Rattle.pl_command.proofs.running.run_text.Goals as goal
use Rattle.pl_control.proofs.of_pl_engine.Joins.{lawful}
use Rattle.pl_control.specs.pl_engine.Answers.{Done, Stopped}
use Rattle.pl_control.specs.pl_engine.Engines.{world}
use Rattle.pl_control.specs.pl_engine.Texts.{do_bodies}
use Rattle.pl_print.specs.declared.reply.Tag.TheVariants.{Do}
use Rattle.pl_world.specs.Errors.{Spot}
use Rattle.pl_world.specs.Statements.{runner_for}
use Rattle.pl_world.specs.Transactions.{does}

pub returns-in-Ok-clause-is : goal.returns-in-Ok-clause-is
returns-in-Ok-clause-is g c =
    let law = lawful g.P.Port g.met.P.Port.none g.met.P.Port.joins g.met.P.Port.rises in
    let r = runner_for do_bodies c.args.runner.now.room in
    ran_done law Do c.requires.fits c.ran_body.ensures
    (subst (λ (at : Spot). Done g.P.Port (does r at c.args.language.now c.args.text.now (world c.args.engine.now)) c.in-Ok.end c.args.engine.now c.do_text.new.engine c.args.port.now c.do_text.new.port) c.top.ensures c.in-Ok.ensures.is)

pub returns-in-Err-clause-is : goal.returns-in-Err-clause-is
returns-in-Err-clause-is g c =
    let law = lawful g.P.Port g.met.P.Port.none g.met.P.Port.joins g.met.P.Port.rises in
    let r = runner_for do_bodies c.args.runner.now.room in
    ran_stopped law Do
    (subst (λ (at : Spot). Stopped g.P.Port (does r at c.args.language.now c.args.text.now (world c.args.engine.now)) c.in-Err.stop c.args.engine.now c.args.port.now c.do_text.new.port) c.top.ensures c.in-Err.ensures.is)
