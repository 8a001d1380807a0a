use Rattle.std.proofs.Common.{◌≡◌, length}
use Rattle.pl_routine_ddl.specs.Routines.{any_is_named}
use Rattle.pl_routine_ddl.proofs.parameters.any_is_named.Given as goal

abbrev pub invariant-loop-params : goal.invariant-loop-params
invariant-loop-params l = any_is_named l.fn.name l.fn.params ≡ any_is_named l.fn.name l.params

abbrev pub decreases-loop-params : goal.decreases-loop-params
decreases-loop-params l = length l.params
