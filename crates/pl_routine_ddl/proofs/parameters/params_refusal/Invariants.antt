use Rattle.std.proofs.Common.{◌≡◌, length}
use Rattle.pl_ddl.specs.pl_catalog.Objects.{tables_in}
use Rattle.pl_routine_ddl.specs.Routines.{params_refusal}
use Rattle.pl_routine_ddl.proofs.parameters.params_refusal.Given as goal

abbrev pub invariant-loop-params : goal.invariant-loop-params
invariant-loop-params l =
    params_refusal (tables_in l.catalog.objects) l.fn.params
    ≡ params_refusal (tables_in l.catalog.objects) l.params

abbrev pub decreases-loop-params : goal.decreases-loop-params
decreases-loop-params l = length l.params
