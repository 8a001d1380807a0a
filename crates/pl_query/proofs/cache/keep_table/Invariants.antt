use Rattle.std.proofs.Common.{◌≡◌}
use Rattle.pl_query.specs.Sources.{alone, frames}
use Rattle.pl_query.proofs.cache.keep_table.Given as goal

abbrev pub invariant-loop-query : goal.invariant-loop-query
invariant-loop-query g l = l.bundles ≡ frames (alone (g.T.Tables.table l.tables l.name))
