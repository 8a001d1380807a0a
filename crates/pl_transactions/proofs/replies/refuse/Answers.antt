use Rattle.pl_transactions.proofs.Refused.{refusing}
use Rattle.pl_transactions.proofs.replies.refuse.Goals as goal

pub returns : goal.returns
returns c = refusing c.args.transaction.now c.fail.new.self c.args.engine.now c.args.state c.in-Ok.answer c.requires.stands c.in-Ok.ensures.reply c.in-Ok.ensures.lines c.fail.ensures.mode c.fail.ensures.names
