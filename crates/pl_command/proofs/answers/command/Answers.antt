use Rattle.std.proofs.Common.{subst}
use Rattle.pl_command.proofs.Alone.{broken, ready, still_idle, stop_is, unsettled}
use Rattle.pl_command.proofs.answers.command.Goals as goal
use Rattle.pl_command.specs.declared.answers.Answer.{Answer}
use Rattle.pl_control.proofs.of_pl_engine.Joins.{answered, lawful}
use Rattle.pl_control.specs.pl_engine.Answers.{Stopped}
use Rattle.pl_control.specs.pl_engine.Engines.{world}
use Rattle.pl_control.specs.pl_engine.Texts.{do_bodies}
use Rattle.pl_control.specs.pl_engine.declared.stop.Stop.{Stop}
use Rattle.pl_world.specs.Sessions.{command_done}
use Rattle.pl_world.specs.Statements.{runner_for}

pub finish-requires-clause-idle : goal.finish-requires-clause-idle
finish-requires-clause-idle g c = still_idle c.args.engine.now c.perform.new.engine c.in-Ok.ensures.keeps c.requires.idle

pub returns-in-Ok-clause-is : goal.returns-in-Ok-clause-is
returns-in-Ok-clause-is g c =
    let law = lawful g.P.Port g.met.P.Port.none g.met.P.Port.joins g.met.P.Port.rises in
    let ran = command_done (runner_for do_bodies c.args.runner.now.room) c.args.command (world c.args.engine.now) in
    answered law _ _ _ (ready law ran c.requires.fits c.in-Ok.ensures.is) c.finish.ensures.is

pub returns-in-Ok-clause-memory : goal.returns-in-Ok-clause-memory
returns-in-Ok-clause-memory g c = λ is.
    let law = lawful g.P.Port g.met.P.Port.none g.met.P.Port.joins g.met.P.Port.rises in
    let ran = command_done (runner_for do_bodies c.args.runner.now.room) c.args.command (world c.args.engine.now) in
    unsettled law ran c.requires.fits c.in-Ok.ensures.is (c.finish.ensures.memory is)

pub returns-in-Err-clause-is : goal.returns-in-Err-clause-is
returns-in-Err-clause-is g c =
    let law = lawful g.P.Port g.met.P.Port.none g.met.P.Port.joins g.met.P.Port.rises in
    let ran = command_done (runner_for do_bodies c.args.runner.now.room) c.args.command (world c.args.engine.now) in
    broken law ran c.in-Err.ensures.is

pub returns-in-Err-clause-memory : goal.returns-in-Err-clause-memory
returns-in-Err-clause-memory g c = λ is.
    let ran = command_done (runner_for do_bodies c.args.runner.now.room) c.args.command (world c.args.engine.now) in
    subst (λ (stop : Stop). Stopped g.P.Port ran stop c.args.engine.now c.args.port.now c.perform.new.port) (stop_is {A = Answer} c.in-Err.stop is) c.in-Err.ensures.is
