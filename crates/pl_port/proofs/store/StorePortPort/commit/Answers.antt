use Rattle.std.proofs.Common.{◌∙◌, ap, refl, sym}
use Rattle.std.specs.Prelude.{is_some}
use Rattle.pl_port.proofs.Opens.{applied, no_bytes, spelled_by}
use Rattle.pl_port.proofs.Told.{committed_fits, committed_in_part, committed_whole, nothing_committed, still_fits}
use Rattle.pl_port.proofs.store.StorePortPort.commit.Goals as goal

pub commit_payload-requires-clause-attached : goal.commit_payload-requires-clause-attached
commit_payload-requires-clause-attached g c = c.requires.fits.attached

pub commit_payload-requires-clause-spelling : goal.commit_payload-requires-clause-spelling
commit_payload-requires-clause-spelling g c =
    let payload = c.payload-payload.result.now in
    ap (λ o. is_some o) (spelled_by payload c.args.journal.now.last c.args.journal.now.now (applied payload c.args.journal.now.last c.args.journal.now.now c.payload-payload.ensures)).1

pub commit_payload-requires-clause-store : goal.commit_payload-requires-clause-store
commit_payload-requires-clause-store g c told = let s = c.requires.fits.store told in (s.list, s.store)

pub returns-then-is_empty-clause-ok : goal.returns-then-is_empty-clause-ok
returns-then-is_empty-clause-ok g c =
    let payload = c.payload-payload.result.now in
    let v = g.H.Disk.view c.args.self.now.host.now in
    (refl, (refl, nothing_committed v v c.args.self.now.keeper.now payload c.args.journal.now.last c.args.journal.now.now c.requires.fits c.payload-payload.ensures (no_bytes payload (sym c.is_empty.ensures ∙ c.if-is_empty.true))))

pub returns-then-is_empty-clause-stored : goal.returns-then-is_empty-clause-stored
returns-then-is_empty-clause-stored g c =
    let payload = c.payload-payload.result.now in
    let v = g.H.Disk.view c.args.self.now.host.now in
    still_fits v v c.args.self.now.keeper.now payload c.args.journal.now.last c.args.journal.now.now c.requires.fits c.payload-payload.ensures (no_bytes payload (sym c.is_empty.ensures ∙ c.if-is_empty.true))

pub returns-in-Ok-clause-ok : goal.returns-in-Ok-clause-ok
returns-in-Ok-clause-ok g c = (
  refl,
  (
    refl,
    committed_whole (g.H.Disk.view c.args.self.now.host.now) (g.H.Disk.view c.commit_payload.new.disk) c.args.self.now.keeper.now c.payload-payload.result.now c.args.journal.now.last c.args.journal.now.now c.requires.fits c.payload-payload.ensures
        c.commit_payload.ensures.writes c.commit_payload.new.self c.in-Ok.ensures.committed,
  ),
)

pub returns-in-Ok-clause-stored : goal.returns-in-Ok-clause-stored
returns-in-Ok-clause-stored g c =
    committed_fits (g.H.Disk.view c.args.self.now.host.now) (g.H.Disk.view c.commit_payload.new.disk) c.args.self.now.keeper.now c.payload-payload.result.now c.args.journal.now.last c.args.journal.now.now c.requires.fits c.payload-payload.ensures
    c.commit_payload.ensures.writes c.commit_payload.new.self c.in-Ok.ensures.committed

pub returns-in-Err-Fault-clause-err : goal.returns-in-Err-Fault-clause-err
returns-in-Err-Fault-clause-err g c =
    (refl, (refl, committed_in_part (g.H.Disk.view c.args.self.now.host.now) (g.H.Disk.view c.commit_payload.new.disk) c.args.self.now.keeper.now c.payload-payload.result.now c.args.journal.now.last c.args.journal.now.now c.requires.fits c.payload-payload.ensures c.commit_payload.ensures.writes))

pub returns-in-Err-Memory-clause-err : goal.returns-in-Err-Memory-clause-err
returns-in-Err-Memory-clause-err g c =
    (refl, (refl, committed_in_part (g.H.Disk.view c.args.self.now.host.now) (g.H.Disk.view c.commit_payload.new.disk) c.args.self.now.keeper.now c.payload-payload.result.now c.args.journal.now.last c.args.journal.now.now c.requires.fits c.payload-payload.ensures c.commit_payload.ensures.writes))
