use Rattle.std.proofs.Common.{◌≡◌, length}
use Rattle.pl_routine_ddl.specs.Routines.{two_of_a_name}
use Rattle.pl_routine_ddl.proofs.parameters.two_of_a_name.Given as goal

abbrev pub invariant-loop-params : goal.invariant-loop-params
invariant-loop-params l = two_of_a_name l.fn.params ≡ two_of_a_name l.params

abbrev pub decreases-loop-params : goal.decreases-loop-params
decreases-loop-params l = length l.params
