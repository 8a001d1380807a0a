use Rattle.std.proofs.Common.{◌≡◌, length}
use Rattle.pl_grouping.specs.Queries.{any_aggregate_reads}
use Rattle.pl_grouping.specs.Columns.{asking}
use Rattle.pl_grouping.proofs.queries.any_aggregate_reads.Given as goal

abbrev pub invariant-loop-aggregates : goal.invariant-loop-aggregates
invariant-loop-aggregates l =
    any_aggregate_reads (asking l.of) l.fn.aggregates
    ≡ any_aggregate_reads (asking l.of) l.aggregates

abbrev pub decreases-loop-aggregates : goal.decreases-loop-aggregates
decreases-loop-aggregates l = length l.aggregates
