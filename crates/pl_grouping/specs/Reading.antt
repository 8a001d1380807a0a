-- Columns that stand outside GROUP BY: PostgreSQL manual, "The GROUP BY and HAVING Clauses".
use Rattle.std.specs.Prelude.{ℕ, Bool, List, [], drop, map}
use Rattle.pl_resolved.specs.declared.expression.RExpr.{RExpr}
use Rattle.pl_resolved.specs.declared.query.RQuery.{RQuery}
use Rattle.pl_grouping.specs.Columns.{Asked, any_reads, reads_as, tree_reads}
use Rattle.pl_grouping.specs.Queries.{asked_of, queries_read}

abbrev pub asked_over : List RExpr → List RQuery → ℕ → ℕ → ℕ → Asked
asked_over keys queries since first end =
    asked_of keys first end since (queries_read keys first end since [] (drop since queries))

-- the expression reads a row from the first on and before the end, outside of each part that equals
-- a key; it may do so by a query inside, which stands in the list at a place from `since` on
unfoldable pub reads : List RExpr → List RQuery → ℕ → ℕ → ℕ → RExpr → Bool
reads keys queries since first end x = tree_reads (asked_over keys queries since first end) x

-- one of the expressions does
unfoldable pub reads_any : List RExpr → List RQuery → ℕ → ℕ → ℕ → List RExpr → Bool
reads_any keys queries since first end list =
    any_reads (asked_over keys queries since first end)
    (map (reads_as (asked_over keys queries since first end)) list) list
