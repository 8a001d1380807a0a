use Rattle.std.proofs.Common.{◌≡◌, vec_len}
use Rattle.pl_quick.proofs.old.undo.Given as goal
use Rattle.pl_quick.specs.Old.{undone_in}

abbrev pub invariant-loop-old : goal.invariant-loop-old
invariant-loop-old l = undone_in l.scratch ≡ undone_in l.fn.scratch

abbrev pub decreases-loop-old : goal.decreases-loop-old
decreases-loop-old l = vec_len l.scratch.olds
