use Rattle.std.proofs.Common.{◌+◌, List, ℕ, ◌∙◌, subst}
use Rattle.pl_disk.specs.Disk.{Written}
use Rattle.pl_frames.proofs.Steps.{first_run, both_runs, done}
use Rattle.pl_frames.proofs.frame.append.Goals as goal

pub returns-in_err-write_synced-clause-writes : goal.returns-in_err-write_synced-clause-writes
returns-in_err-write_synced-clause-writes g c =
    first_run c.args.area c.args.at c.args.payload.now _ _ _ c.write_synced.ensures.writes

pub returns-in_err-write_synced-2-clause-writes : goal.returns-in_err-write_synced-2-clause-writes
returns-in_err-write_synced-2-clause-writes g c =
    let bytes = c.deref.ensures.value ∙ c.in_ok-body.ensures in
    both_runs c.args.area c.args.at c.args.payload.now _ _ _ _ (g.met.D.Disk.lawful c.args.disk.now) c.write_synced.ensures.writes c.write_synced-2.ensures.writes
    (λ told. subst (λ (bs : List ℕ). Written c.args.area (c.args.at + 1) bs (g.D.Disk.view c.args.disk.now).seen (g.D.Disk.view c.write_synced.new.disk).seen) bytes (c.in_ok-write_synced.ensures.written told))
    c.in_ok-write_synced.ensures.durable

pub returns-clause-writes : goal.returns-clause-writes
returns-clause-writes g c =
    let bytes = c.deref.ensures.value ∙ c.in_ok-body.ensures in
    both_runs c.args.area c.args.at c.args.payload.now _ _ _ _ (g.met.D.Disk.lawful c.args.disk.now) c.write_synced.ensures.writes c.write_synced-2.ensures.writes
    (λ told. subst (λ (bs : List ℕ). Written c.args.area (c.args.at + 1) bs (g.D.Disk.view c.args.disk.now).seen (g.D.Disk.view c.write_synced.new.disk).seen) bytes (c.in_ok-write_synced.ensures.written told))
    c.in_ok-write_synced.ensures.durable

pub returns-clause-appended : goal.returns-clause-appended
returns-clause-appended g c told =
    let bytes = c.deref.ensures.value ∙ c.in_ok-body.ensures in
    let mid = c.write_synced.ensures.writes.moments.continues.told told in
    record {
      durable = c.in_ok-write_synced-2.ensures.durable mid;
      joined = done c.args.area c.args.at c.args.payload.now _ _ _
          (subst (λ (bs : List ℕ). Written c.args.area (c.args.at + 1) bs (g.D.Disk.view c.args.disk.now).seen (g.D.Disk.view c.write_synced.new.disk).seen) bytes (c.in_ok-write_synced.ensures.written told))
          (c.in_ok-write_synced-2.ensures.written mid);
    }
