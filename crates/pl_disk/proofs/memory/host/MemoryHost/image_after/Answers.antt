use Rattle.std.proofs.Common.{rules, ◌≡◌}
use Rattle.pl_disk.specs.MemoryHosts.{first_image, notes_of}
use Rattle.pl_disk.specs.Picks.{left_by, notes_until}
use Rattle.pl_disk.specs.Replay.{image_of}
use Rattle.pl_disk.proofs.Leaving.{leaves}
use Rattle.pl_disk.proofs.memory.host.MemoryHost.image_after.Goals as goal

pub returns : goal.returns
returns c =
    let h = c.args.self.now in
    let is : image_of c.in_ok-left.left ≡ left_by c.args.pick (first_image h) (notes_until c.args.call (notes_of h)) = search rules in
    leaves h c.args.call c.args.pick (image_of c.in_ok-left.left) is
