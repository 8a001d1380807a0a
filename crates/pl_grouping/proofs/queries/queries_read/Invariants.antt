use Rattle.std.proofs.Common.{◌≡◌, [], length}
use Rattle.pl_grouping.specs.Queries.{queries_read}
use Rattle.pl_grouping.proofs.queries.queries_read.Given as goal

abbrev pub invariant-loop-rest : goal.invariant-loop-rest
invariant-loop-rest l =
    queries_read l.keys l.first l.end l.since [] l.queries
    ≡ queries_read l.keys l.first l.end l.since l.done.items l.rest

abbrev pub decreases-loop-rest : goal.decreases-loop-rest
decreases-loop-rest l = length l.rest
