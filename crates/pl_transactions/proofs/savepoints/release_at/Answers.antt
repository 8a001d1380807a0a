use Rattle.std.proofs.Common.{refl}
use Rattle.pl_transactions.proofs.Saves.{live_at, released_so}
use Rattle.pl_transactions.proofs.savepoints.release_at.Goals as goal
use Rattle.pl_transactions.specs.declared.transaction.Transaction.{Transaction}

pub unprotect-requires : goal.unprotect-requires
unprotect-requires c = record { live = live_at c.args.transaction.now c.args.engine.now c.args.at c.requires.stands c.requires.within }

pub returns : goal.returns
returns c =
    let t = c.args.transaction.now in
    let u : Transaction = record t { names = c.truncate.new.self } in
    released_so t u c.args.at c.args.engine.now c.unprotect.new.self c.in-Ok.answer c.requires.stands c.requires.is c.requires.within c.in-Ok.ensures.reply c.in-Ok.ensures.lines refl c.truncate.ensures.items c.unprotect.ensures.is c.unprotect.ensures.keeps
