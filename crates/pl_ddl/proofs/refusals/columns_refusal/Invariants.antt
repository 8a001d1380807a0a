use Rattle.std.proofs.Common.{◌≡◌, length, map}
use Rattle.pl_catalog.specs.Objects.{tables_in}
use Rattle.pl_ddl.specs.Refusals.{columns_refusal}
use Rattle.pl_ddl.specs.Views.{column_view}
use Rattle.pl_ddl.proofs.refusals.columns_refusal.Given as goal

abbrev pub invariant-loop-columns : goal.invariant-loop-columns
invariant-loop-columns l =
    columns_refusal (tables_in l.catalog.objects) (map column_view l.fn.columns)
    ≡ columns_refusal (tables_in l.catalog.objects) (map column_view l.columns)

abbrev pub decreases-loop-columns : goal.decreases-loop-columns
decreases-loop-columns l = length l.columns
