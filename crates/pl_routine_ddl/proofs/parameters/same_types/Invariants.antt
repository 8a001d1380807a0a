use Rattle.std.proofs.Common.{◌≡◌, length}
use Rattle.pl_grouping.specs.Words.{same_types}
use Rattle.pl_ddl.specs.pl_names.Routines.{types_of}
use Rattle.pl_routine_ddl.proofs.parameters.same_types.Given as goal

abbrev pub invariant-loop-types : goal.invariant-loop-types
invariant-loop-types l =
    same_types l.fn.types (types_of l.fn.params) ≡ same_types l.types (types_of l.params)

abbrev pub decreases-loop-types : goal.decreases-loop-types
decreases-loop-types l = length l.types
