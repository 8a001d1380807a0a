-- Each note so far was made until that call.
use Rattle.std.proofs.Common.{◌≡◌, take, drop, ◌++◌}
use Rattle.pl_disk.specs.Picks.{notes_until}
use Rattle.pl_disk.proofs.memory.image_after.count_until.Given as goal

abbrev pub invariant-loop-i : goal.invariant-loop-i
invariant-loop-i l = notes_until l.call l.notes ≡ take l.i l.notes ++ notes_until l.call (drop l.i l.notes)
