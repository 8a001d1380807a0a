use Rattle.std.proofs.Common.{ap, subst, sym}
use Rattle.pl_command.specs.pl_engine.Database.{Database}
use Rattle.pl_transactions.proofs.Plain.{alone_so, begins_idle, room_for}
use Rattle.pl_transactions.proofs.doing.alone.Goals as goal
use Rattle.pl_command.specs.pl_world.World.{World}

pub command-requires-clause-idle : goal.command-requires-clause-idle
command-requires-clause-idle g c = begins_idle c.args.transaction.now c.args.engine.now c.give_steps.new.self c.args.runner.now.room c.requires.stands c.requires.is c.give_steps.ensures.world

pub command-requires-clause-room : goal.command-requires-clause-room
command-requires-clause-room g c = room_for c.args.engine.now c.give_steps.new.self c.args.runner.now.room c.give_steps.ensures.world

pub command-requires-clause-fits : goal.command-requires-clause-fits
command-requires-clause-fits g c = subst (λ (db : Database). g.P.Port.fits db c.args.port.now) (sym (ap (λ (w : World). w.last) c.give_steps.ensures.world)) c.requires.fits

pub returns : goal.returns
returns g c =
    alone_so g.P.Port c.args.transaction.now c.args.command c.args.runner.now.room c.args.engine.now c.give_steps.new.self c.command.new.engine c.args.port.now c.command.new.port c.give_steps.ensures.world c.requires.stands c.requires.is
    c.command.result c.command.ensures.is c.command.ensures.memory c.command.ensures.lines
