use Rattle.std.proofs.Common.{rules, ◌≡◌}
use Rattle.pl_base.specs.Image.{file}
use Rattle.pl_disk.specs.Replay.{image_of, put, with_file}
use Rattle.pl_disk.proofs.Replayed.{kept_wrote}
use Rattle.pl_disk.proofs.memory.host.MemoryHost.put.Goals as goal

pub invariant_of-self-2 : goal.invariant_of-self-2
invariant_of-self-2 c =
    let h = c.args.self.now in
    let same : c.in_ok-bytes.bytes.items ≡ c.args.bytes.now = search rules in
    let next_is : c.in_ok-next.next.items ≡ put (file c.args.area (image_of h.files)) c.args.at c.args.bytes.now = search rules in
    let files_is : image_of c.set.new.self ≡ with_file c.args.area c.in_ok-next.next.items (image_of h.files) = search rules in
    record {
      kept = kept_wrote (image_of h.first) (image_of h.files) h.printed.items h.notes.items c.push.new.self.items c.args.call c.args.area c.args.at c.in_ok-bytes.bytes c.args.bytes.now same
          c.in_ok-push.ensures.items h.kept c.in_ok-next.next.items (image_of c.set.new.self) next_is files_is;
    }

pub returns-clause-put : goal.returns-clause-put
returns-clause-put c =
    let h = c.args.self.now in
    let same : c.in_ok-bytes.bytes.items ≡ c.args.bytes.now = search rules in
    record { copy = c.in_ok-bytes.bytes; same = same; noted = c.in_ok-push.ensures.items; files = search rules }
