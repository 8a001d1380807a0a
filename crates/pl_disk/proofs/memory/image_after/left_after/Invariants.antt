-- What the notes that are left do to the files so far is what all of them do to the first files.
use Rattle.std.proofs.Common.{◌≡◌, take, drop}
use Rattle.pl_disk.specs.Replay.{image_of}
use Rattle.pl_disk.specs.Picks.{picked_all, picked_images}
use Rattle.pl_disk.proofs.memory.image_after.left_after.Given as goal

abbrev pub invariant-loop-note : goal.invariant-loop-note
invariant-loop-note l =
    picked_all l.pick (record { seen = image_of l.first; left = image_of l.first }) (take l.count l.notes) ≡ picked_all l.pick (picked_images l.files) (drop l.note-index (take l.count l.notes))
