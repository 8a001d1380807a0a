use Rattle.std.proofs.Common.{◌≡◌, take}
use Rattle.pl_base.proofs.copies.copy_each.Given as goal

abbrev pub invariant-loop-item : goal.invariant-loop-item
invariant-loop-item g l = l.copied ≡ take l.item-index l.list
