use Rattle.std.proofs.Common.{ap, subst, sym}
use Rattle.pl_command.proofs.of_pl_engine.Joins.{lawful}
use Rattle.pl_command.specs.pl_engine.Database.{Database}
use Rattle.pl_transactions.proofs.Plain.{inside_off, inside_so, inside_unsaid, room_for}
use Rattle.pl_transactions.proofs.doing.inside.Goals as goal
use Rattle.pl_command.specs.pl_world.World.{World}

pub perform-requires-clause-room : goal.perform-requires-clause-room
perform-requires-clause-room g c = room_for c.args.engine.now c.give_steps.new.self c.args.runner.now.room c.give_steps.ensures.world

pub perform-requires-clause-fits : goal.perform-requires-clause-fits
perform-requires-clause-fits g c = subst (λ (db : Database). g.P.Port.fits db c.args.port.now) (sym (ap (λ (w : World). w.last) c.give_steps.ensures.world)) c.requires.fits

pub returns-in_err-reply : goal.returns-in_err-reply
returns-in_err-reply g c =
    inside_off g.P.Port c.args.transaction.now c.args.command c.args.runner.now.room c.args.engine.now c.give_steps.new.self c.perform.new.engine c.args.port.now c.perform.new.port c.give_steps.ensures.world c.requires.stands c.requires.is c.requires.fits c.give_steps.ensures.keeps
    _ c.args.transaction.now c.in_err-reply.field-0.0 c.from_residual.ensures c.in_err-reply.ensures.is

pub returns-in_default : goal.returns-in_default
returns-in_default g c =
    inside_unsaid g.P.Port c.args.transaction.now c.args.command c.args.runner.now.room c.args.engine.now c.give_steps.new.self c.perform.new.engine c.args.port.now c.perform.new.port c.give_steps.ensures.world c.requires.stands c.requires.is c.requires.fits c.give_steps.ensures.keeps
    (lawful g.P.Port g.met.P.Port.none g.met.P.Port.joins g.met.P.Port.rises) c.in_ok-reply.reply c.in_ok-reply.ensures.is

pub returns : goal.returns
returns g c =
    inside_so g.P.Port c.args.transaction.now c.args.command c.args.runner.now.room c.args.engine.now c.give_steps.new.self c.perform.new.engine c.args.port.now c.perform.new.port c.give_steps.ensures.world c.requires.stands c.requires.is c.requires.fits c.give_steps.ensures.keeps
    c.note.new.self (record { reply = c.in_ok-reply.reply; lines = c.in-Ok.lines }) c.in_ok-reply.ensures.is c.in_ok-reply.ensures.keeps c.in-Ok.ensures c.note.ensures.mode c.note.ensures.names
