-- One equation for each kind of item of FROM: what it reads, from what its parts read.
use Rattle.std.proofs.Common.{◌≡◌, ◌∙◌, ap, refl, ℕ, Bool, List, [], ◌∷◌, map, rules, arith}
use Rattle.pl_resolved.specs.declared.expression.RExpr.{RExpr}
use Rattle.pl_resolved.specs.declared.query.RJoin.{RJoin, fold-RJoin}
use Rattle.pl_resolved.specs.declared.query.RSource.{the_lemmas}
use Rattle.pl_resolved.specs.declared.query.RSource.TheOpen as l
use Rattle.pl_resolved.specs.declared.query.RSource.TheVariants as s
use Rattle.pl_grouping.specs.Columns.{Asked}
use Rattle.pl_grouping.specs.Queries.{join_reads, join_step, source_reads, source_step}

unfoldable join_raw : Asked → RJoin → Bool
join_raw a = fold-RJoin Bool Bool (source_step a) (join_step a)

join_out : (a : Asked) (x : RJoin) → join_raw a x ≡ join_reads a x
unfolding join_raw source_reads
join_out a x = first_of (search (rules, the_lemmas), grind (arith, the_lemmas))

map_join : (a : Asked) (xs : List RJoin) → map (join_raw a) xs ≡ map (join_reads a) xs
map_join a [] = refl
map_join a (x ∷ xs) = cc (join_out a x, map_join a xs)

pub source_table : (a : Asked) (name : List ℕ) → source_reads a (s.Table name) ≡ source_step a (l.Table name)
unfolding source_reads
source_table a name = first_of (search (rules, the_lemmas), grind (arith, the_lemmas))

pub source_query : (a : Asked) (n : ℕ) → source_reads a (s.Query n) ≡ source_step a (l.Query n)
unfolding source_reads
source_query a n = first_of (search (rules, the_lemmas), grind (arith, the_lemmas))

pub source_value : (a : Asked) (x : RExpr) → source_reads a (s.Value x) ≡ source_step a (l.Value x)
unfolding source_reads
source_value a x = first_of (search (rules, the_lemmas), grind (arith, the_lemmas))

joined_raw : (a : Asked) (xs : List RJoin) → source_reads a (s.Joined xs) ≡ source_step a (l.Joined (map (join_raw a) xs))
unfolding source_reads join_raw
joined_raw a xs = first_of (search (rules, the_lemmas), grind (arith, the_lemmas))

pub source_joined : (a : Asked) (xs : List RJoin) → source_reads a (s.Joined xs) ≡ source_step a (l.Joined (map (join_reads a) xs))
source_joined a xs = joined_raw a xs ∙ ap (λ (bs : List Bool). source_step a (l.Joined bs)) (map_join a xs)

pub ruleset equations = (source_table, source_query, source_value, source_joined)
