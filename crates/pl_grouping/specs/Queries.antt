-- What queries read of the rows around them.
use Rattle.std.specs.Prelude.{ℕ, Bool, false, ◌||◌, List, [], ◌∷◌, ◌++◌, Option, Some, None, map}
use Rattle.std.specs.Prelude.{option_map}
use Rattle.pl_resolved.specs.Layers.{SourceLayer, JoinLayer}
use Rattle.pl_resolved.specs.declared.expression.RExpr.{RExpr}
use Rattle.pl_resolved.specs.declared.query.RAggregate.{RAggregate}
use Rattle.pl_resolved.specs.declared.query.RGroups.{RGroups}
use Rattle.pl_resolved.specs.declared.query.RJoin.{RJoin, out-RJoin}
use Rattle.pl_resolved.specs.declared.query.RQuery.{RQuery}
use Rattle.pl_resolved.specs.declared.query.RSource.{RSource, fold-RSource}
use Rattle.pl_resolved.specs.declared.query.RSource.TheOpen as s
use Rattle.pl_grouping.specs.Columns.{Asked, any_reads, query_reads, reads_as, reads_if_any, tree_reads}

abbrev pub one_reads : Asked → Option RExpr → Bool
one_reads a x = reads_if_any a (option_map (reads_as a) x) x

abbrev pub some_read : Asked → List RExpr → Bool
some_read a xs = any_reads a (map (reads_as a) xs) xs

-- ---- FROM, with ON

abbrev pub any_of : List Bool → Bool
any_of [] = false
any_of (reads ∷ more) = reads || any_of more

abbrev pub source_step : Asked → SourceLayer Bool Bool → Bool
source_step a (s.Table name) = false
source_step a (s.Query query) = query_reads a query
source_step a (s.Value x) = tree_reads a x
source_step a (s.Joined joins) = any_of joins

abbrev pub join_step : Asked → JoinLayer Bool Bool → Bool
join_step a layer = layer.source || one_reads a layer.condition

unfoldable pub source_reads : Asked → RSource → Bool
source_reads a = fold-RSource Bool Bool (source_step a) (join_step a)

abbrev pub join_reads : Asked → RJoin → Bool
join_reads a x = source_reads a (out-RJoin x).source || one_reads a (out-RJoin x).condition

abbrev pub any_join_reads : Asked → List RJoin → Bool
any_join_reads a joins = any_of (map (join_reads a) joins)

-- ---- a query

abbrev pub any_aggregate_reads : Asked → List RAggregate → Bool
any_aggregate_reads a [] = false
any_aggregate_reads a (x ∷ xs) = some_read a x.arguments || any_aggregate_reads a xs

abbrev pub groups_read : Asked → Option RGroups → Bool
groups_read a None = false
groups_read a (Some groups) =
    some_read a groups.keys
    || (any_aggregate_reads a groups.aggregates || one_reads a groups.having)

abbrev pub reads_within : Asked → RQuery → Bool
reads_within a q =
    any_join_reads a q.from || (one_reads a q.condition || (groups_read a q.groups
    || (some_read a q.items || (one_reads a q.limit || one_reads a q.offset))))

abbrev pub asked_of : List RExpr → ℕ → ℕ → ℕ → List Bool → Asked
asked_of keys first end since queries = record {
  keys = keys;
  first = first;
  end = end;
  since = since;
  queries = queries;
}

-- of each query, behind those that are told of
abbrev pub queries_read : List RExpr → ℕ → ℕ → ℕ → List Bool → List RQuery → List Bool
queries_read keys first end since done [] = done
queries_read keys first end since done (q ∷ qs) =
    queries_read keys first end since
    (done ++ reads_within (asked_of keys first end since done) q ∷ []) qs
