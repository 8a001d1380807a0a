use Rattle.std.proofs.Common.{ap, subst, sym}
use Rattle.pl_command.proofs.of_pl_engine.Joins.{lawful}
use Rattle.pl_command.specs.pl_engine.Database.{Database}
use Rattle.pl_transactions.proofs.Ends.{block_committed, block_cut, wants}
use Rattle.pl_transactions.proofs.Quiet.{unbegun}
use Rattle.pl_transactions.proofs.ending.commit_block.Goals as goal
use Rattle.pl_command.specs.pl_world.World.{World}

pub returns-in_default : goal.returns-in_default
returns-in_default g c = unbegun (lawful g.P.Port g.met.P.Port.none g.met.P.Port.joins g.met.P.Port.rises) _ _ c.args.engine.now c.args.port.now

pub commit-requires : goal.commit-requires
commit-requires g c = record {
  unmarked = ap (λ (w : World). w.depth) c.release_all.ensures.world;
  fits = subst (λ (db : Database). g.P.Port.fits db c.args.port.now) (sym (ap (λ (w : World). w.last) c.release_all.ensures.world)) c.requires.fits;
}

pub returns-in-Ok-commit : goal.returns-in-Ok-commit
returns-in-Ok-commit g c =
    block_committed (lawful g.P.Port g.met.P.Port.none g.met.P.Port.joins g.met.P.Port.rises) c.args.transaction.now c.args.engine.now c.release_all.new.engine c.args.port.now c.commit.new.port c.requires.is c.requires.fits c.release_all.ensures.world
    c.in-Ok.answer c.end.new.self _ c.commit.new.engine c.end_block.new.self c.in-Ok.ensures.reply c.in-Ok.ensures.lines c.in-Ok-commit.ensures.is c.end_block.ensures.world c.end.ensures.mode c.end.ensures.names

pub returns-in-Err : goal.returns-in-Err
returns-in-Err g c =
    block_cut (lawful g.P.Port g.met.P.Port.none g.met.P.Port.joins g.met.P.Port.rises) c.args.transaction.now c.args.engine.now c.release_all.new.engine c.args.port.now c.commit.new.port c.requires.is c.requires.fits c.release_all.ensures.world
    c.in-Ok.answer c.in-Err.stop c.in-Ok.ensures.reply c.in-Err.ensures.is (λ is. c.in-Err.ensures.memory (wants is))
