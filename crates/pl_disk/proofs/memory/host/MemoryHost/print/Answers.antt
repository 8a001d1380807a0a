use Rattle.std.proofs.Common.{rules, ◌≡◌, ◌++◌}
use Rattle.pl_disk.specs.Replay.{image_of}
use Rattle.pl_disk.proofs.Replayed.{kept_said}
use Rattle.pl_disk.proofs.memory.host.MemoryHost.print.Goals as goal

pub invariant_of-self-2 : goal.invariant_of-self-2
invariant_of-self-2 c =
    let h = c.args.self.now in
    let same : c.in_ok-text.text.items ≡ c.args.text.now = search rules in
    let new : c.in_ok-next.next.items ≡ h.printed.items ++ c.args.text.now = search rules in
    record { kept = kept_said (image_of h.first) (image_of h.files) h.printed.items h.notes.items c.push.new.self.items c.args.call c.in_ok-text.text c.args.text.now same c.in_ok-push.ensures.items h.kept c.in_ok-next.next.items new }

pub returns-clause-prints : goal.returns-clause-prints
returns-clause-prints c =
    let h = c.args.self.now in
    let same : c.in_ok-text.text.items ≡ c.args.text.now = search rules in
    record { copy = c.in_ok-text.text; same = same; noted = c.in_ok-push.ensures.items; printed = search rules }
