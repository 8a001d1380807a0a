use Rattle.std.proofs.Common.{Result, Ok, refl, arith}
use Rattle.pl_disk.specs.Attached.{AreAttached}
use Rattle.pl_disk.specs.Replay.{image_of}
use Rattle.pl_disk.specs.declared.device.Failed.{Failed}
use Rattle.pl_disk.specs.declared.memory.note.Change.TheVariants.{Synced}
use Rattle.pl_disk.specs.declared.memory.note.Note.{Note}
use Rattle.pl_disk.proofs.Counted.{same_disk, same_say}
use Rattle.pl_disk.proofs.Replayed.{kept_noted, done, settles, was_possible, sync_noted}
use Rattle.pl_disk.proofs.memory.host.MemoryHostDisk.sync.Goals as goal

pub invariant_of-self-in-Ok : goal.invariant_of-self-in-Ok
invariant_of-self-in-Ok c =
    let h = c.args.self.now in
    let note : Note = record { call = c.in_ok-call.call; change = Synced } in
    record { kept = kept_noted (image_of h.first) (image_of h.files) h.printed.items h.notes.items c.push.new.self.items note c.in-Ok.ensures.items h.kept (image_of h.files) h.printed.items h.kept.seen_is h.kept.printed_is }

pub returns-clause-call : goal.returns-clause-call
returns-clause-call c =
    let h = c.args.self.now in
    let now = c.begin.new.self in
    let fine : Result (Unit {0}) Failed = Ok tt in
    let note : Note = record { call = c.in_ok-call.call; change = Synced } in
    done (image_of h.first) (image_of h.files) h.printed.items h.notes.items c.push.new.self.items note c.in-Ok.ensures.items h.kept (AreAttached h.attached) (image_of h.files)
    h.counts.disk_faults h.counts.say_faults now.disk_faults now.say_faults fine (omega (arith, same_disk h.counts now _ c.in_ok-call.ensures.ok)) (same_say h.counts now _ c.in_ok-call.ensures.ok) (λ err. cc err) (λ p i none. none) refl

pub returns-clause-settled : goal.returns-clause-settled
returns-clause-settled c =
    let h = c.args.self.now in
    sync_noted (image_of h.first) (image_of h.files) h.printed.items h.notes.items c.push.new.self.items c.in_ok-call.call c.in-Ok.ensures.items h.kept

pub returns-clause-durable : goal.returns-clause-durable
returns-clause-durable c =
    let h = c.args.self.now in
    settles (image_of h.first) (image_of h.files) h.printed.items h.notes.items c.push.new.self.items c.in_ok-call.call c.in-Ok.ensures.items h.kept

pub returns-clause-crash : goal.returns-clause-crash
returns-clause-crash c =
    let h = c.args.self.now in
    was_possible (image_of h.first) (image_of h.files) h.printed.items h.notes.items c.push.new.self.items c.in_ok-call.call c.in-Ok.ensures.items h.kept
