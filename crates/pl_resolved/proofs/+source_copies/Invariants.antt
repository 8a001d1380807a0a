use Rattle.std.proofs.Common.{◌≡◌, take}
use Rattle.pl_resolved.proofs.+source_copies.Given as goal

abbrev pub invariant-copies::copy_joins-loop-join : goal.invariant-copies::copy_joins-loop-join
invariant-copies::copy_joins-loop-join l = l.copied ≡ take l.join-index l.joins
