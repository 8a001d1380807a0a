use Rattle.std.proofs.Common.{◌≡◌, drop}
use Rattle.pl_grouping.specs.Columns.{asking}
use Rattle.pl_grouping.specs.Queries.{any_join_reads}
use Rattle.pl_grouping.proofs.queries.+sources.Given as goal

abbrev pub invariant-any_join_reads-loop-join : goal.invariant-any_join_reads-loop-join
invariant-any_join_reads-loop-join l =
    any_join_reads (asking l.of) l.joins
    ≡ any_join_reads (asking l.of) (drop l.join-index l.joins)
