use Rattle.std.proofs.Common.{◌≡◌}
use Rattle.pl_value.specs.Combined.{repeated}
use Rattle.pl_value.proofs.operations.of_one_times.Given as goal

abbrev pub invariant-loop-more : goal.invariant-loop-more
invariant-loop-more l = repeated l.operator l.times l.fn.v ≡ repeated l.operator l.more l.v

abbrev pub decreases-loop-more : goal.decreases-loop-more
decreases-loop-more l = l.more
