use Rattle.std.proofs.Common.{◌∙◌, sym}
use Rattle.pl_command.proofs.Alone.{kept_off, kept_on, none_of, same_stop, some_of, undone, undone_kept}
use Rattle.pl_command.proofs.settling.settle.Goals as goal
use Rattle.pl_control.proofs.of_pl_engine.Joins.{lawful}
use Rattle.pl_world.specs.declared.outcome.Outcome.{Outcome}
use Rattle.pl_world.specs.declared.session.Reply.{Reply}

pub returns-then-is_some-clause-is : goal.returns-then-is_some-clause-is
returns-then-is_some-clause-is g c =
    let law = lawful g.P.Port g.met.P.Port.none g.met.P.Port.joins g.met.P.Port.rises in
    let fail = some_of c.args.reply.fail (sym c.is_some.ensures ∙ c.if-is_some.true) in
    undone law c.args.reply {old = c.args.engine.now} c.requires.idle {new = c.reset.new.self} fail.0 fail.1 c.requires.fits c.reset.ensures.world

pub returns-then-is_some-clause-keeps : goal.returns-then-is_some-clause-keeps
returns-then-is_some-clause-keeps g c = undone_kept c.args.engine.now c.reset.new.self c.requires.idle c.reset.ensures.keeps

pub returns-in-Ok-clause-is : goal.returns-in-Ok-clause-is
returns-in-Ok-clause-is g c =
    kept_on c.args.reply {old = c.args.engine.now} c.requires.idle (none_of c.args.reply.fail (sym c.is_some.ensures ∙ c.if-is_some.false)) _ c.in-Ok.ensures.is

pub returns-in-Err-clause-is : goal.returns-in-Err-clause-is
returns-in-Err-clause-is g c =
    kept_off c.args.reply {old = c.args.engine.now} c.requires.idle (none_of c.args.reply.fail (sym c.is_some.ensures ∙ c.if-is_some.false)) c.in-Err.ensures.is

pub returns-in-Err-clause-memory : goal.returns-in-Err-clause-memory
returns-in-Err-clause-memory g c = λ is. c.in-Err.ensures.memory (same_stop {A = Reply} {B = Outcome} c.in-Err.stop is)
