use Rattle.std.proofs.Common.{◌≡◌, length}
use Rattle.pl_ddl.specs.Refusals.{has_twin}
use Rattle.pl_ddl.proofs.refusals.has_twin.Given as goal

abbrev pub invariant-loop-names : goal.invariant-loop-names
invariant-loop-names l =
    has_twin l.fn.names ≡ has_twin l.names

abbrev pub decreases-loop-names : goal.decreases-loop-names
decreases-loop-names l = length l.names
