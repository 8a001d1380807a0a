use Rattle.std.proofs.Common.{◌∙◌, ap, refl}
use Rattle.pl_command.proofs.Alone.{same_answer}
use Rattle.pl_command.proofs.answers.finish.Goals as goal
use Rattle.pl_command.specs.Lines.{lines_of}
use Rattle.pl_control.proofs.of_pl_engine.Joins.{before, lawful}
use Rattle.pl_control.specs.pl_engine.Engines.{world}

pub returns-in_default-clause-is : goal.returns-in_default-clause-is
returns-in_default-clause-is g c = before (lawful g.P.Port g.met.P.Port.none g.met.P.Port.joins g.met.P.Port.rises) refl

pub returns-in_default-clause-memory : goal.returns-in_default-clause-memory
returns-in_default-clause-memory g c = λ is. g.met.P.Port.none (world c.args.engine.now).last c.args.port.now

pub returns-in-Ok-settle-clause-lines : goal.returns-in-Ok-settle-clause-lines
returns-in-Ok-settle-clause-lines g c =
    let done = c.in-Ok-settle.ensures.is in
    c.in-Ok.ensures ∙ ap lines_of (same_answer c.args.reply c.in-Ok-settle.reply (world c.args.engine.now) (world c.settle.new.engine) done.events done.gives)
