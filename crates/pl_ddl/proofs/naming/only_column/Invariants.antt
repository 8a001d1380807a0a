use Rattle.std.proofs.Common.{◌≡◌, length}
use Rattle.pl_ddl.specs.Naming.{check_columns, only}
use Rattle.pl_ddl.proofs.naming.only_column.Given as goal

abbrev pub invariant-loop-rest : goal.invariant-loop-rest
invariant-loop-rest l =
    only (check_columns l.table l.columns l.e) ≡ only (check_columns l.table l.rest l.e)

abbrev pub decreases-loop-rest : goal.decreases-loop-rest
decreases-loop-rest l = length l.rest
