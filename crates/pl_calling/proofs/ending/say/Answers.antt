use Rattle.std.proofs.Common.{[], ◌∷◌}
use Rattle.pl_calling.proofs.Telling.{line_cut, untaken}
use Rattle.pl_calling.proofs.ending.say.Goals as goal
use Rattle.pl_engine.proofs.Joins.{lawful}
use Rattle.pl_engine.proofs.Rises.{risen, wanted}
use Rattle.pl_engine.specs.declared.stop.Stop.TheVariants.{Say}
use Rattle.pl_engine.specs.pl_world.Trace.{Said}

pub returns-in-Err-Device : goal.returns-in-Err-Device
returns-in-Err-Device g c = λ db fits. line_cut (lawful g.P.Port g.met.P.Port.none g.met.P.Port.joins g.met.P.Port.rises) db c.args.lines.now Say (c.in-Err-Device.ensures.err db fits)
    (risen c.in-Err-Device.field-0 {a = g.P.Port.say_faults c.args.port.now} {b = g.P.Port.say_faults c.say.new.self} c.in-Err-Device.field-0-is c.in-Err-Device.ensures.fault)

pub returns-in-Err-Memory : goal.returns-in-Err-Memory
returns-in-Err-Memory g c = λ db fits. untaken db (Said c.args.lines.now ∷ []) (c.in-Err-Memory.ensures.memory db fits (wanted c.in-Err-Memory.field-0-is))
