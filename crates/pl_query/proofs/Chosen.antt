-- The select list for each row or for each group.
use Rattle.std.proofs.Common.{◌≡◌, ap, ◌∙◌, sym, List, [], Option, Some, None, map}
use Rattle.std.specs.Option.{option_map}
use Rattle.pl_query.specs.Query.{grouping}
use Rattle.pl_query.specs.Rows.{in_turn, selected, with_row}
use Rattle.pl_query.specs.Sources.{Drawn}
use Rattle.pl_resolved.specs.declared.expression.RExpr.{RExpr}
use Rattle.pl_resolved.specs.declared.query.RGroups.{RGroups}
use Rattle.pl_value.specs.Frames.{Frame}
use Rattle.pl_value.specs.Meaning.{Calls, Sub, value}

module _ {W : Type 0} (calls : Calls W) (sub : Sub W) where
  pub for_each : (o : Option RGroups) (items items' : List RExpr) (outer : Frame) (d : Drawn) (w : W) → o ≡ None → items' ≡ items
      → selected (option_map (grouping calls sub) o) (map (value calls sub) items) outer d w ≡ in_turn (with_row (map (value calls sub) items')) d.1 [] w
  for_each o items items' outer d w is same =
      ap (λ (p : Option RGroups). selected (option_map (grouping calls sub) p) (map (value calls sub) items) outer d w) is
      ∙ ap (λ (its : List RExpr). in_turn (with_row (map (value calls sub) its)) d.1 [] w) (sym same)

  pub by_groups : (o : Option RGroups) (g : RGroups) (items items' : List RExpr) (outer : Frame) (d : Drawn) (w : W) → o ≡ Some g → items' ≡ items
      → selected (option_map (grouping calls sub) o) (map (value calls sub) items) outer d w ≡ selected (Some (grouping calls sub g)) (map (value calls sub) items') outer d w
  by_groups o g items items' outer d w is same =
      ap (λ (p : Option RGroups). selected (option_map (grouping calls sub) p) (map (value calls sub) items) outer d w) is
      ∙ ap (λ (its : List RExpr). selected (Some (grouping calls sub g)) (map (value calls sub) its) outer d w) (sym same)
