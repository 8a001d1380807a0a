use Rattle.std.proofs.Common.{refl}
use Rattle.pl_port.proofs.Told.{said_fits, said_in_part, said_whole}
use Rattle.pl_port.proofs.store.StorePortPort.say.Goals as goal

pub returns-in-Ok-clause-ok : goal.returns-in-Ok-clause-ok
returns-in-Ok-clause-ok g c = λ db fits.
    let a = g.H.Disk.view c.args.self.now.host.now in
    let d = g.H.Disk.view c.say.new.self in (
      (refl, (refl, said_whole a d c.args.self.now.keeper.now c.args.lines.now db _ fits c.in-Ok.ensures c.in-Ok.ensures.whole)),
      said_fits a d c.args.self.now.keeper.now c.args.lines.now db _ fits c.in-Ok.ensures,
    )

pub returns-in-Err-clause-err : goal.returns-in-Err-clause-err
returns-in-Err-clause-err g c = λ db fits.
    (refl, (refl, said_in_part (g.H.Disk.view c.args.self.now.host.now) (g.H.Disk.view c.say.new.self) c.args.self.now.keeper.now c.args.lines.now db _ fits c.in-Err.ensures))
