use Rattle.std.proofs.Common.{◌≡◌, ◌+◌, length}
use Rattle.pl_ddl.specs.Naming.{first_free}
use Rattle.pl_ddl.proofs.naming.first_free.Given as goal

abbrev pub invariant-loop-rest : goal.invariant-loop-rest
invariant-loop-rest l = record {
  same : first_free l.usual l.taken l.taken 1 ≡ first_free l.usual l.taken l.rest l.suffix;
  count : l.suffix + length l.rest ≡ length l.taken + 1;
}

abbrev pub decreases-loop-rest : goal.decreases-loop-rest
decreases-loop-rest l = length l.rest
