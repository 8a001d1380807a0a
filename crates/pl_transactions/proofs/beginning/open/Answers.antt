use Rattle.pl_transactions.proofs.Refused.{opened}
use Rattle.pl_transactions.proofs.beginning.open.Goals as goal

pub returns : goal.returns
returns c = opened c.args.transaction.now c.args.tag c.args.engine.now c.begin_block.new.self c.in-Ok.answer c.requires.stands c.requires.is c.in-Ok.ensures.reply c.in-Ok.ensures.lines c.begin_block.ensures.world c.begin_block.ensures.keeps
