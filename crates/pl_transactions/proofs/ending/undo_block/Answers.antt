use Rattle.pl_transactions.proofs.Ends.{block_undone}
use Rattle.pl_transactions.proofs.ending.undo_block.Goals as goal

pub returns : goal.returns
returns c = block_undone c.end.new.self c.args.engine.now c.reset.new.self c.end_block.new.self c.in-Ok.answer c.in-Ok.ensures.reply c.in-Ok.ensures.lines c.reset.ensures.world c.end_block.ensures.world c.end.ensures.mode c.end.ensures.names
