-- Queries need no more of the state than what calls of routines need.
use Rattle.std.proofs.Common.{◌≡◌, refl, ℕ, zero, suc, ◌==◌, List, [], ◌∷◌, ◌++◌, map, Option, Some, None, Ok, length, slice_get, take}
use Rattle.std.specs.Option.{option_map}
use Rattle.std.specs.List.{AllZip}
use Rattle.pl_base.specs.States.{INVALID_ROW_COUNT_IN_LIMIT_CLAUSE, INVALID_ROW_COUNT_IN_RESULT_OFFSET_CLAUSE}
use Rattle.pl_base.specs.declared.state.State.{State}
use Rattle.pl_natural.proofs.Draws.{item_agrees}
use Rattle.pl_natural.proofs.Goes.{BothIf, both, each, either, goes, makes}
use Rattle.pl_natural.proofs.Items.{ItemsAgree, drawn_agrees, standing_agrees}
use Rattle.pl_natural.proofs.Parts.{or_absent_agrees}
use Rattle.pl_natural.proofs.Selected.{AggregationsAgree, GroupingsAgree, selected_agrees}
use Rattle.pl_natural.proofs.Values.{each_agrees, if_agrees}
use Rattle.pl_natural.specs.Kept.{CallsAgree, PartsAgree, SubsAgree, kept}
use Rattle.pl_order.specs.Cut.{count_of, cut}
use Rattle.pl_order.specs.Order.{order_by, sorted}
use Rattle.pl_query.specs.Query.{aggregation, argument, each_once, ended, grouping, query, query_if, row_count, rows, rows_before, selected_from}
use Rattle.pl_query.specs.Rows.{selected}
use Rattle.pl_query.specs.Sources.{Drawn, Tables, drawn, item, standing}
use Rattle.pl_resolved.specs.declared.expression.RExpr.{RExpr}
use Rattle.pl_resolved.specs.declared.query.RAggregate.{RAggregate}
use Rattle.pl_resolved.specs.declared.query.RGroups.{RGroups}
use Rattle.pl_resolved.specs.declared.query.RQuery.{RQuery}
use Rattle.pl_value.specs.Frames.{Frame, Row}
use Rattle.pl_value.specs.Meaning.{Calls, Part, Sub, value}
use Rattle.pl_value.specs.Reading.{got, then_read}

module _ {W V : Type 0} (keep : W → V) where
  count_agrees : (negative : State) (o : Option (Part W)) (o' : Option (Part V)) → BothIf (PartsAgree keep) o o' → (outer : Frame) (w : W)
      → row_count negative o' outer (keep w) ≡ kept keep (row_count negative o outer w)
  count_agrees negative None None same outer w = refl
  count_agrees negative None (Some p') same outer w = absurd same
  count_agrees negative (Some p) None same outer w = absurd same
  count_agrees negative (Some p) (Some p') same outer w = makes keep (count_of negative) (p outer w) (p' outer (keep w)) (same outer w)

  -- the rows that are left in the end
  abbrev left : RQuery → List Row → Option ℕ → Option ℕ → List Row
  left q all offset limit = map (take (length q.heads)) (cut offset limit (sorted (order_by q.order) (each_once q.is_distinct all)))

  ended_agrees : (q : RQuery) (offset limit : Option (Part W)) (offset' limit' : Option (Part V)) → BothIf (PartsAgree keep) offset offset' → BothIf (PartsAgree keep) limit limit'
      → (outer : Frame) (all : List Row) (w : W) → ended q offset' limit' outer all (keep w) ≡ kept keep (ended q offset limit outer all w)
  ended_agrees q offset limit offset' limit' first second outer all w =
      goes keep (row_count INVALID_ROW_COUNT_IN_RESULT_OFFSET_CLAUSE offset outer w) (row_count INVALID_ROW_COUNT_IN_RESULT_OFFSET_CLAUSE offset' outer (keep w))
      (λ n w. then_read (row_count INVALID_ROW_COUNT_IN_LIMIT_CLAUSE limit outer w) (λ m w. got (left q all n m) w))
      (λ n v. then_read (row_count INVALID_ROW_COUNT_IN_LIMIT_CLAUSE limit' outer v) (λ m v. got (left q all n m) v))
      (count_agrees INVALID_ROW_COUNT_IN_RESULT_OFFSET_CLAUSE offset offset' first outer w)
      (λ n w. makes keep (λ m. Ok (left q all n m)) (row_count INVALID_ROW_COUNT_IN_LIMIT_CLAUSE limit outer w) (row_count INVALID_ROW_COUNT_IN_LIMIT_CLAUSE limit' outer (keep w))
      (count_agrees INVALID_ROW_COUNT_IN_LIMIT_CLAUSE limit limit' second outer w))

module _ {W V : Type 0} (keep : W → V) (calls : Calls W) (calls' : Calls V) (called : CallsAgree keep calls calls') where
  module _ (sub : Sub W) (sub' : Sub V) (subs : SubsAgree keep sub sub') where
    argument_agrees : (xs : List RExpr) (at : ℕ) → PartsAgree keep (argument calls sub xs at) (argument calls' sub' xs at)
    argument_agrees xs at = or_absent_agrees keep (option_map (value calls sub) (slice_get xs at)) (option_map (value calls' sub') (slice_get xs at)) (if_agrees keep calls calls' called sub sub' subs (slice_get xs at))

    aggregation_agrees : (a : RAggregate) → AggregationsAgree keep (aggregation calls sub a) (aggregation calls' sub' a)
    aggregation_agrees a = record { aggregate = refl; first = argument_agrees a.arguments 0; second = argument_agrees a.arguments 1 }

    grouping_agrees : (g : RGroups) → GroupingsAgree keep (grouping calls sub g) (grouping calls' sub' g)
    grouping_agrees g = record {
      keys = each_agrees keep calls calls' called sub sub' subs g.keys;
      aggregations = each (AggregationsAgree keep) (aggregation calls sub) (aggregation calls' sub') aggregation_agrees g.aggregates;
      having = if_agrees keep calls calls' called sub sub' subs g.having;
    }

    module _ (tables : Tables) where
      items_agree : (q : RQuery) (outer : Frame) → AllZip (ItemsAgree keep) (map (item calls sub tables outer) q.from) (map (item calls' sub' tables outer) q.from)
      items_agree q outer =
          each (ItemsAgree keep) (item calls sub tables outer) (item calls' sub' tables outer) (item_agrees keep calls calls' called sub sub' subs tables outer) q.from

      selected_from_agrees : (q : RQuery) (ds : List Drawn) (outer stands : Frame) (w : W)
          → selected_from calls' sub' tables q ds outer stands (keep w) ≡ kept keep (selected_from calls sub tables q ds outer stands w)
      selected_from_agrees q ds outer stands w =
          goes keep (standing (map (item calls sub tables outer) q.from) ds (option_map (value calls sub) q.condition) stands w)
          (standing (map (item calls' sub' tables outer) q.from) ds (option_map (value calls' sub') q.condition) stands (keep w))
          (λ d w. selected (option_map (grouping calls sub) q.groups) (map (value calls sub) q.items) outer d w)
          (λ d v. selected (option_map (grouping calls' sub') q.groups) (map (value calls' sub') q.items) outer d v)
          (standing_agrees keep (map (item calls sub tables outer) q.from) (map (item calls' sub' tables outer) q.from) (items_agree q outer) ds
          (option_map (value calls sub) q.condition) (option_map (value calls' sub') q.condition) (if_agrees keep calls calls' called sub sub' subs q.condition) stands w)
          (λ d w. selected_agrees keep (option_map (grouping calls sub) q.groups) (option_map (grouping calls' sub') q.groups)
          (both (GroupingsAgree keep) (grouping calls sub) (grouping calls' sub') grouping_agrees q.groups)
          (map (value calls sub) q.items) (map (value calls' sub') q.items) (each_agrees keep calls calls' called sub sub' subs q.items) outer d w)

      query_agrees : (q : RQuery) (outer : Frame) (w : W) → query calls' sub' tables q outer (keep w) ≡ kept keep (query calls sub tables q outer w)
      query_agrees q outer w =
          goes keep (drawn (map (item calls sub tables outer) q.from) [] (outer ++ [] ∷ []) w) (drawn (map (item calls' sub' tables outer) q.from) [] (outer ++ [] ∷ []) (keep w))
          (λ ds w. then_read (selected_from calls sub tables q ds outer (outer ++ [] ∷ []) w) (λ all w.
          ended q (option_map (value calls sub) q.offset) (option_map (value calls sub) q.limit) outer all w))
          (λ ds v. then_read (selected_from calls' sub' tables q ds outer (outer ++ [] ∷ []) v) (λ all v.
          ended q (option_map (value calls' sub') q.offset) (option_map (value calls' sub') q.limit) outer all v))
          (drawn_agrees keep (map (item calls sub tables outer) q.from) (map (item calls' sub' tables outer) q.from) (items_agree q outer) [] (outer ++ [] ∷ []) w)
          (λ ds w. goes keep (selected_from calls sub tables q ds outer (outer ++ [] ∷ []) w) (selected_from calls' sub' tables q ds outer (outer ++ [] ∷ []) (keep w))
          (λ all w. ended q (option_map (value calls sub) q.offset) (option_map (value calls sub) q.limit) outer all w)
          (λ all v. ended q (option_map (value calls' sub') q.offset) (option_map (value calls' sub') q.limit) outer all v)
          (selected_from_agrees q ds outer (outer ++ [] ∷ []) w)
          (λ all w. ended_agrees keep q (option_map (value calls sub) q.offset) (option_map (value calls sub) q.limit) (option_map (value calls' sub') q.offset) (option_map (value calls' sub') q.limit)
          (if_agrees keep calls calls' called sub sub' subs q.offset) (if_agrees keep calls calls' called sub sub' subs q.limit) outer all w))

      query_if_agrees : (o : Option RQuery) (outer : Frame) (w : W) → query_if calls' sub' tables o outer (keep w) ≡ kept keep (query_if calls sub tables o outer w)
      query_if_agrees None outer w = refl
      query_if_agrees (Some q) outer w = query_agrees q outer w

  module _ (queries : List RQuery) (tables : Tables) where
    before_agrees : (n : ℕ) → SubsAgree keep (rows_before calls queries tables n) (rows_before calls' queries tables n)
    unfolding rows_before
    before_agrees zero at outer w = refl
    before_agrees (suc n) at outer w =
        either keep (at == n)
        (query_if calls (rows_before calls queries tables n) tables (slice_get queries n) outer w) (rows_before calls queries tables n at outer w)
        (query_if calls' (rows_before calls' queries tables n) tables (slice_get queries n) outer (keep w)) (rows_before calls' queries tables n at outer (keep w))
        (query_if_agrees (rows_before calls queries tables n) (rows_before calls' queries tables n) (before_agrees n) tables (slice_get queries n) outer w)
        (before_agrees n at outer w)

    -- the rows of queries over what is kept of a state are those over the state
    pub rows_agree : SubsAgree keep (rows calls queries tables) (rows calls' queries tables)
    rows_agree = before_agrees (length queries)
