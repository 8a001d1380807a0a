use Rattle.std.proofs.Common.{◌≡◌, length}
use Rattle.pl_routine_ddl.specs.Routines.{keeps_params}
use Rattle.pl_routine_ddl.proofs.parameters.keeps_params.Given as goal

abbrev pub invariant-loop-old : goal.invariant-loop-old
invariant-loop-old l = keeps_params l.fn.old l.fn.new ≡ keeps_params l.old l.new

abbrev pub decreases-loop-old : goal.decreases-loop-old
decreases-loop-old l = length l.old
