use Rattle.std.proofs.Common.{◌≡◌, ◌++◌, length}
use Rattle.pl_ddl.specs.Naming.{underscored}
use Rattle.pl_ddl.proofs.naming.push_columns.Given as goal

abbrev pub invariant-loop-columns : goal.invariant-loop-columns
invariant-loop-columns l =
    l.fn.name.items ++ underscored l.fn.columns ≡ l.name.items ++ underscored l.columns

abbrev pub decreases-loop-columns : goal.decreases-loop-columns
decreases-loop-columns l = length l.columns
