use Rattle.std.proofs.Common.{refl}
use Rattle.pl_transactions.proofs.Saves.{saved_so}
use Rattle.pl_transactions.proofs.savepoints.keep.Goals as goal
use Rattle.pl_transactions.specs.declared.transaction.Transaction.{Transaction}

pub returns : goal.returns
returns c =
    let t = c.args.transaction.now in
    let u : Transaction = record t { names = c.push.new.self } in
    saved_so t u c.args.name c.args.engine.now c.protect.new.self c.in-Ok.answer c.requires.stands c.requires.is c.in-Ok.ensures.reply c.in-Ok.ensures.lines refl c.in-Ok-push.ensures.items c.in-Ok-protect.ensures.is c.in-Ok-protect.ensures.keeps
