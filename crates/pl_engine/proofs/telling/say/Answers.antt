use Rattle.pl_engine.proofs.Joins.{lawful}
use Rattle.pl_engine.proofs.Rises.{risen, wanted}
use Rattle.pl_engine.proofs.Tells.{printed_cut, untaken}
use Rattle.pl_engine.specs.Engines.{world}
use Rattle.pl_world.specs.Raising.{printed}
use Rattle.pl_engine.proofs.telling.say.Goals as goal
use Rattle.pl_engine.specs.declared.stop.Stop.TheVariants.{Say}

pub returns-in-Err-Device : goal.returns-in-Err-Device
returns-in-Err-Device g c =
    printed_cut (lawful g.P.Port g.met.P.Port.none g.met.P.Port.joins g.met.P.Port.rises) c.args.lines.now c.args.engine.now Say (c.in-Err-Device.ensures.err _ c.requires.fits)
    (risen c.in-Err-Device.field-0 {a = g.P.Port.say_faults c.args.port.now} {b = g.P.Port.say_faults c.say.new.self} c.in-Err-Device.field-0-is c.in-Err-Device.ensures.fault)

pub returns-in-Err-Memory : goal.returns-in-Err-Memory
returns-in-Err-Memory g c =
    untaken (printed c.args.lines.now (world c.args.engine.now)) c.args.engine.now (c.in-Err-Memory.ensures.memory _ c.requires.fits (wanted c.in-Err-Memory.field-0-is))
