use Rattle.std.proofs.Common.{◌≡◌, drop, map}
use Rattle.pl_inside.specs.Agreement.{AgreeOn}
use Rattle.pl_query.specs.Query.{query}
use Rattle.pl_query.specs.Sources.{Tables}
use Rattle.pl_value.specs.Meaning.{Calls, Sub}
use Rattle.pl_inside.proofs.reading.tables_read.Given as goal

abbrev pub invariant-loop-query : goal.invariant-loop-query
invariant-loop-query g l =
    (one other : Tables) → AgreeOn l.names.items one other → (calls : Calls g.row.C.Denot) (sub : Sub g.row.C.Denot)
    → map (query calls sub one) (drop l.query-index l.queries) ≡ map (query calls sub other) (drop l.query-index l.queries)
    → map (query calls sub one) l.queries ≡ map (query calls sub other) l.queries
