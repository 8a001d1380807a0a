use Rattle.std.proofs.Common.{◌≡◌, length}
use Rattle.pl_grouping.specs.Words.{same_types}
use Rattle.pl_grouping.proofs.words.same_types.Given as goal

abbrev pub invariant-loop-first : goal.invariant-loop-first
invariant-loop-first l = same_types l.fn.a l.fn.b ≡ same_types l.a l.b

abbrev pub decreases-loop-first : goal.decreases-loop-first
decreases-loop-first l = length l.a
