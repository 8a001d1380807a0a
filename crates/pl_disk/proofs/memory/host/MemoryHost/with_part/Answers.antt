use Rattle.std.proofs.Common.{refl}
use Rattle.pl_base.specs.Image.{Image}
use Rattle.pl_disk.proofs.Replayed.{nothing_pending}
use Rattle.pl_disk.proofs.memory.host.MemoryHost.with_part.Goals as goal

pub returns : goal.returns
returns c =
    let first : Image = record { a = c.args.a.items; b = c.args.b.items } in
    record {
      part = refl;
      tally_is = c.new-3.ensures;
      first_is = refl;
      notes_is = c.new-2.ensures.items;
      attached = refl;
      told = tt;
      seen_is = c.in_ok-files.ensures;
      settled = λ i left. nothing_pending first c.new-2.result.items c.new-2.ensures.items i left;
      printed_is = c.new.ensures.items;
    }
