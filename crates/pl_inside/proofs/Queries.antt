-- Queries over tables that agree.
use Rattle.std.proofs.Common.{◌≡◌, refl, sym, ap, ◌∙◌, ℕ, zero, suc, ◌==◌, cond, List, [], ◌∷◌, ◌++◌, map, Option, Some, None, slice_get}
use Rattle.std.proofs.Math.Path.{fun_ext}
use Rattle.std.specs.Option.{option_map}
use Rattle.pl_inside.proofs.Lists.{part_alike}
use Rattle.pl_query.proofs.SourceEquations.{joined_is, query_is, table_is, value_is}
use Rattle.pl_query.specs.Query.{ended, grouping, query, query_if, rows_before}
use Rattle.pl_query.specs.Rows.{selected}
use Rattle.pl_query.specs.Sources.{Draw, Item, Tables, alone, bracketed, draw, drawn, item, standing}
use Rattle.pl_resolved.specs.declared.expression.RExpr.{RExpr}
use Rattle.pl_resolved.specs.declared.query.RJoin.{RJoin, out-RJoin}
use Rattle.pl_resolved.specs.declared.query.RQuery.{RQuery}
use Rattle.pl_resolved.specs.declared.query.RSource.{RSource}
use Rattle.pl_resolved.specs.declared.query.RSource.TheVariants as s
use Rattle.pl_value.specs.Frames.{Frame, Row}
use Rattle.pl_value.specs.Meaning.{Calls, Sub, value}
use Rattle.pl_value.specs.Reading.{Reading, got, then_read}

-- the items of FROM
module _ {W : Type 0} (calls : Calls W) (sub : Sub W) (one other : Tables) (outer : Frame) where
  pub table_alike : (x : RSource) (name : List ℕ) → x ≡ s.Table name → one name ≡ other name → draw calls sub one outer x ≡ draw calls sub other outer x
  table_alike x name is same =
      fun_ext (λ stands. fun_ext (λ w. table_is calls sub one outer x name stands w (alone (other name)) is (sym (ap alone same)) ∙ sym (table_is calls sub other outer x name stands w (alone (other name)) is refl)))

  pub inner_alike : (x : RSource) (n : ℕ) → x ≡ s.Query n → draw calls sub one outer x ≡ draw calls sub other outer x
  inner_alike x n is =
      fun_ext (λ stands. fun_ext (λ w. query_is calls sub one outer x n stands w is ∙ sym (query_is calls sub other outer x n stands w is)))

  pub function_alike : (x : RSource) (e : RExpr) → x ≡ s.Value e → draw calls sub one outer x ≡ draw calls sub other outer x
  function_alike x e is =
      fun_ext (λ stands. fun_ext (λ w. value_is calls sub one outer x e e stands w is refl ∙ sym (value_is calls sub other outer x e e stands w is refl)))

  pub bracket_alike : (x : RSource) (js js' : List RJoin) → x ≡ s.Joined js → js' ≡ js → map (item calls sub one outer) js' ≡ map (item calls sub other outer) js' → draw calls sub one outer x ≡ draw calls sub other outer x
  bracket_alike x js js' is is-list same =
      fun_ext (λ stands. fun_ext (λ w. joined_is calls sub one outer x js js' stands w is is-list
      ∙ (ap (λ (items : List (Item W)). bracketed items stands w) same ∙ sym (joined_is calls sub other outer x js js' stands w is is-list))))

  pub item_alike : (j : RJoin) → draw calls sub one outer (out-RJoin j).source ≡ draw calls sub other outer (out-RJoin j).source → item calls sub one outer j ≡ item calls sub other outer j
  item_alike j same = ap (λ (d : Draw W). let i : Item W = record { draw = d; is_left = (out-RJoin j).is_left; on = option_map (value calls sub) (out-RJoin j).condition } in i) same

-- whole queries
module _ {W : Type 0} (calls : Calls W) where
  -- a query, from how the items of its FROM are read
  abbrev over_items : Sub W → RQuery → Frame → List (Item W) → W → Reading W (List Row)
  over_items sub q outer items w =
      then_read (drawn items [] (outer ++ [] ∷ []) w) (λ ds w.
      then_read (then_read (standing items ds (option_map (value calls sub) q.condition) (outer ++ [] ∷ []) w) (λ d w.
      selected (option_map (grouping calls sub) q.groups) (map (value calls sub) q.items) outer d w)) (λ rows w.
      ended q (option_map (value calls sub) q.offset) (option_map (value calls sub) q.limit) outer rows w))

  abbrev or_none : Option (Frame → W → Reading W (List Row)) → Frame → W → Reading W (List Row)
  or_none (Some reads) outer w = reads outer w
  or_none None outer w = got [] w

  if_is : (sub : Sub W) (tables : Tables) (o : Option RQuery) (outer : Frame) (w : W) → query_if calls sub tables o outer w ≡ or_none (option_map (query calls sub tables) o) outer w
  if_is sub tables None outer w = refl
  if_is sub tables (Some q) outer w = refl

  module _ (one other : Tables) where
    pub query_alike : (sub : Sub W) (q : RQuery) (js : List RJoin) → js ≡ q.from → ((outer : Frame) → map (item calls sub one outer) js ≡ map (item calls sub other outer) js)
        → query calls sub one q ≡ query calls sub other q
    query_alike sub q js is same =
        fun_ext (λ outer. fun_ext (λ w.
        ap (λ (xs : List RJoin). over_items sub q outer (map (item calls sub one outer) xs) w) (sym is)
        ∙ (ap (λ (items : List (Item W)). over_items sub q outer items w) (same outer)
        ∙ ap (λ (xs : List RJoin). over_items sub q outer (map (item calls sub other outer) xs) w) is)))

    if_alike : (sub : Sub W) (qs : List RQuery) (at : ℕ) → map (query calls sub one) qs ≡ map (query calls sub other) qs → (outer : Frame) (w : W)
        → query_if calls sub one (slice_get qs at) outer w ≡ query_if calls sub other (slice_get qs at) outer w
    if_alike sub qs at same outer w =
        if_is sub one (slice_get qs at) outer w
        ∙ (ap (λ (o : Option (Frame → W → Reading W (List Row))). or_none o outer w) (part_alike (query calls sub one) (query calls sub other) qs at same)
        ∙ sym (if_is sub other (slice_get qs at) outer w))

    pub rows_alike : (qs : List RQuery) → ((sub : Sub W) → map (query calls sub one) qs ≡ map (query calls sub other) qs) → (n : ℕ) → rows_before calls qs one n ≡ rows_before calls qs other n
    unfolding rows_before
    rows_alike qs same zero = fun_ext (λ at. fun_ext (λ outer. fun_ext (λ w. refl)))
    rows_alike qs same (suc n) =
        fun_ext (λ at. fun_ext (λ outer. fun_ext (λ w.
        ap (λ (sub : Sub W). cond (at == n) (query_if calls sub one (slice_get qs n) outer w) (sub at outer w)) (rows_alike qs same n)
        ∙ ap (λ (q : Reading W (List Row)). cond (at == n) q (rows_before calls qs other n at outer w)) (if_alike (rows_before calls qs other n) qs n (same (rows_before calls qs other n)) outer w))))
