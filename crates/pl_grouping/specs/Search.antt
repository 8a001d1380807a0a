-- Trees that are sought in lists.
use Rattle.std.specs.Prelude.{ℕ, ◌+◌, if◌then◌else◌, List, [], ◌∷◌}
use Rattle.std.specs.Prelude.{Option, Some, None}
use Rattle.pl_resolved.specs.declared.expression.RExpr.{RExpr}
use Rattle.pl_resolved.specs.declared.query.RAggregate.{RAggregate}
use Rattle.pl_grouping.specs.Equality.{same, same_aggregate}

-- the place of the first that equals the tree, where the list begins at this place
abbrev pub place_of : RExpr → ℕ → List RExpr → Option ℕ
place_of x at [] = None
place_of x at (y ∷ ys) = if same y x then Some at else place_of x (at + 1) ys

abbrev pub aggregate_place : RAggregate → ℕ → List RAggregate → Option ℕ
aggregate_place x at [] = None
aggregate_place x at (y ∷ ys) =
    if same_aggregate y x then Some at else aggregate_place x (at + 1) ys
