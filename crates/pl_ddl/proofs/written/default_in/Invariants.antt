use Rattle.std.proofs.Common.{◌≡◌, length}
use Rattle.pl_ddl.specs.Written.{default_in}
use Rattle.pl_ddl.proofs.written.default_in.Given as goal

abbrev pub invariant-loop-rules : goal.invariant-loop-rules
invariant-loop-rules l =
    default_in l.fn.rules ≡ default_in l.rules

abbrev pub decreases-loop-rules : goal.decreases-loop-rules
decreases-loop-rules l = length l.rules
