use Rattle.std.proofs.Common.{refl}
use Rattle.pl_transactions.proofs.Saves.{live_at, returned_so}
use Rattle.pl_transactions.proofs.savepoints.return_at.Goals as goal
use Rattle.pl_transactions.specs.declared.transaction.Transaction.{Transaction}
use Rattle.pl_command.specs.pl_world.declared.session.Mode.TheVariants as mode

pub return_to-requires : goal.return_to-requires
return_to-requires c = record { live = live_at c.args.transaction.now c.args.engine.now c.args.at c.requires.stands c.requires.within }

pub returns : goal.returns
returns c =
    let t = c.args.transaction.now in
    let u : Transaction = record t { names = c.truncate.new.self; mode = mode.Block } in
    returned_so t u c.args.at c.args.engine.now c.return_to.new.self c.in-Ok.answer c.requires.stands c.requires.is c.requires.within c.in-Ok.ensures.reply c.in-Ok.ensures.lines refl c.truncate.ensures.items c.return_to.ensures.is c.return_to.ensures.keeps
