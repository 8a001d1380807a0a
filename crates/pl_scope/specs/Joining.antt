-- Two items of a FROM side by side, before their ON is read.
use Rattle.std.specs.Prelude.{ℕ, ◌+◌, List, Option, length}
use Rattle.pl_names.specs.Sources.{together}
use Rattle.pl_names.specs.declared.scope.Source.{Source}
use Rattle.pl_names.specs.declared.sources.Sourced.{Sourced}
use Rattle.pl_resolved.specs.declared.expression.RExpr.{RExpr}
use Rattle.pl_scope.specs.Following.{after}
use Rattle.pl_scope.specs.Steps.{joined}
use Rattle.pl_scope.specs.declared.entering.Both.{Both}
use Rattle.pl_tree.specs.declared.tree.JoinKind.{JoinKind}
use Rattle.pl_typing.specs.Resolved.{Resolved}

abbrev pub both_with : Sourced → ℕ → Sourced → List Source → Both
both_with done row with sources = record {
  joins = done.joins;
  with = with.joins;
  sources = sources;
  end = row + length sources;
}

abbrev pub side_by_side : Sourced → ℕ → Sourced → Resolved Both
side_by_side done row with = after (together done.sources with.sources) (both_with done row with)

abbrev pub joined_by : Both → JoinKind → Option RExpr → Sourced
joined_by both kind on = joined both.joins kind both.with both.sources on
