use Rattle.pl_command.proofs.of_pl_engine.Joins.{lawful}
use Rattle.pl_transactions.proofs.Ends.{no_depth, none_cut, none_ended, none_unwarned, wants}
use Rattle.pl_transactions.proofs.Quiet.{unbegun}
use Rattle.pl_transactions.proofs.ending.end_none.Goals as goal

pub returns-in_default : goal.returns-in_default
returns-in_default g c = unbegun (lawful g.P.Port g.met.P.Port.none g.met.P.Port.joins g.met.P.Port.rises) _ _ c.args.engine.now c.args.port.now

pub returns-in-Ok-commit : goal.returns-in-Ok-commit
returns-in-Ok-commit g c =
    none_ended (lawful g.P.Port g.met.P.Port.none g.met.P.Port.joins g.met.P.Port.rises) c.args.transaction.now c.args.tag c.args.engine.now c.in-Ok.answer c.args.port.now c.warn.new.port c.requires.stands c.requires.is c.requires.fits c.in-Ok.ensures.reply _ c.in-Ok-warn.ensures
    _ c.commit.new.engine c.commit.new.port c.in-Ok-commit.ensures.is c.in-Ok.ensures.lines

pub returns-in-Err-commit : goal.returns-in-Err-commit
returns-in-Err-commit g c =
    none_cut (lawful g.P.Port g.met.P.Port.none g.met.P.Port.joins g.met.P.Port.rises) c.args.transaction.now c.args.tag c.args.engine.now c.in-Ok.answer c.args.port.now c.warn.new.port c.requires.stands c.requires.is c.requires.fits c.in-Ok.ensures.reply _ c.in-Ok-warn.ensures
    c.in-Err-commit.stop c.commit.new.port c.in-Err-commit.ensures.is (λ is. c.in-Err-commit.ensures.memory (wants is))

pub returns-in-Err : goal.returns-in-Err
returns-in-Err g c =
    none_unwarned (lawful g.P.Port g.met.P.Port.none g.met.P.Port.joins g.met.P.Port.rises) c.args.transaction.now c.args.tag c.args.engine.now c.in-Ok.answer c.args.port.now c.warn.new.port c.requires.stands c.requires.is c.requires.fits c.in-Ok.ensures.reply c.in-Err.stop c.in-Err.ensures

pub commit-requires : goal.commit-requires
commit-requires g c = record { unmarked = no_depth c.args.transaction.now c.args.engine.now c.requires.stands c.requires.is; fits = c.in-Ok-warn.ensures.told.fits }
