use Rattle.std.proofs.Common.{[], ◌∷◌, subst}
use Rattle.pl_engine.proofs.Joins.{lawful}
use Rattle.pl_engine.proofs.Marking.{committed_kept}
use Rattle.pl_engine.proofs.Rises.{risen, wanted}
use Rattle.pl_engine.proofs.Tells.{committed_cut, committed_done, untaken}
use Rattle.pl_engine.specs.Engines.{world}
use Rattle.pl_world.specs.Trace.{Committed}
use Rattle.pl_world.specs.Transactions.{committed}
use Rattle.pl_engine.proofs.telling.commit.Goals as goal
use Rattle.pl_engine.specs.declared.stop.Stop.TheVariants.{Disk}
use Rattle.pl_undo.specs.Store.{Stored}

pub returns-in-Ok-clause-is : goal.returns-in-Ok-clause-is
returns-in-Ok-clause-is g c =
    let took = subst (λ (s : Stored). g.P.Port.took s.last (Committed s.now ∷ []) c.args.port.now c.commit.new.self) c.journal.ensures c.in-Ok.ensures.ok in
    let stored = subst (λ (s : Stored). g.P.Port.fits s.now c.commit.new.self) c.journal.ensures c.in-Ok.ensures.stored in
    committed_done {port = g.P.Port} c.args.engine.now c.seal.new.self c.requires.unmarked c.seal.ensures.now c.seal.ensures.last c.seal.ensures.marks took stored

pub returns-in-Ok-clause-keeps : goal.returns-in-Ok-clause-keeps
returns-in-Ok-clause-keeps g c = committed_kept c.args.engine.now c.seal.new.self c.requires.unmarked c.seal.ensures.marks

pub returns-in-Err-Device-clause-is : goal.returns-in-Err-Device-clause-is
returns-in-Err-Device-clause-is g c =
    let tried = subst (λ (s : Stored). g.P.Port.tried s.last (Committed s.now) c.args.port.now c.commit.new.self) c.journal.ensures c.in-Err-Device.ensures.err in
    committed_cut (lawful g.P.Port g.met.P.Port.none g.met.P.Port.joins g.met.P.Port.rises) c.args.engine.now Disk tried
    (risen c.in-Err-Device.field-0 {a = g.P.Port.disk_faults c.args.port.now} {b = g.P.Port.disk_faults c.commit.new.self} c.in-Err-Device.field-0-is c.in-Err-Device.ensures.fault)

pub returns-in-Err-Memory-clause-is : goal.returns-in-Err-Memory-clause-is
returns-in-Err-Memory-clause-is g c =
    let took = subst (λ (s : Stored). g.P.Port.took s.last [] c.args.port.now c.commit.new.self) c.journal.ensures (c.in-Err-Memory.ensures.memory (wanted c.in-Err-Memory.field-0-is)) in
    untaken (committed (world c.args.engine.now)) c.args.engine.now took

pub returns-in-Err-Memory-clause-memory : goal.returns-in-Err-Memory-clause-memory
returns-in-Err-Memory-clause-memory g c = λ is.
    subst (λ (s : Stored). g.P.Port.took s.last [] c.args.port.now c.commit.new.self) c.journal.ensures (c.in-Err-Memory.ensures.memory (wanted c.in-Err-Memory.field-0-is))
