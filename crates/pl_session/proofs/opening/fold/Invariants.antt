use Rattle.std.proofs.Common.{◌≡◌, ◌<◌, ◌-◌, ◌^◌, []}
use Rattle.pl_disk.specs.Disk.{Looks}
use Rattle.pl_session.proofs.Folding.{Folded}
use Rattle.pl_session.proofs.opening.fold.Given as goal

-- the batches so far lead to the database, or to the first that doesn't apply, and nothing was written
abbrev pub invariant-batches : goal.invariant-batches
invariant-batches g l = record {
  place : l.reader.end < 2 ^ 63;
  looks : Looks (g.H.Disk.view l.fn.host) (g.H.Disk.view l.host);
  folded : (g.H.Disk.view l.host).told → Folded (g.H.Disk.view l.host) l.reader l.journal.now l.stopped;
  settled : l.journal.last ≡ l.journal.now;
  unmarked : l.journal.marks ≡ [];
}

abbrev pub decreases-batches : goal.decreases-batches
decreases-batches g l = 2 ^ 63 - l.reader.end
