use Rattle.pl_command.proofs.of_pl_engine.Joins.{lawful}
use Rattle.pl_transactions.proofs.Quiet.{unbegun}
use Rattle.pl_transactions.proofs.Refused.{unwarned, warned}
use Rattle.pl_transactions.proofs.beginning.warn_of_block.Goals as goal

pub returns-in_default : goal.returns-in_default
returns-in_default g c = unbegun (lawful g.P.Port g.met.P.Port.none g.met.P.Port.joins g.met.P.Port.rises) _ _ c.args.engine.now c.args.port.now

pub returns-in-Ok-warn : goal.returns-in-Ok-warn
returns-in-Ok-warn g c = warned c.args.transaction.now c.args.tag c.args.engine.now c.args.port.now c.warn.new.port c.requires.is _ c.in-Ok.answer c.requires.stands c.in-Ok.ensures.reply c.in-Ok.ensures.lines c.in-Ok-warn.ensures

pub returns-in-Err : goal.returns-in-Err
returns-in-Err g c = unwarned c.args.transaction.now c.args.tag c.args.engine.now c.args.port.now c.warn.new.port c.requires.is c.in-Err.stop c.in-Err.ensures
