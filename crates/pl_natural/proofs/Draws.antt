-- Items of FROM need no more of the state than the calls of routines and the queries inside them: an
-- induction over the resolved trees.
use Rattle.std.proofs.Common.{◌≡◌, refl, sym, subst, map}
use Rattle.pl_natural.proofs.Goes.{Beside, each_known}
use Rattle.pl_natural.proofs.Items.{DrawsAgree, ItemsAgree, bracketed_agrees, query_drawn_agrees, value_drawn_agrees}
use Rattle.pl_natural.proofs.Values.{if_agrees, value_agrees}
use Rattle.pl_natural.specs.Kept.{CallsAgree, SubsAgree}
use Rattle.pl_query.specs.Sources.{Draw, Item, Tables, draw, item, join_step, source_step}
use Rattle.pl_resolved.specs.Layers.{JoinLayer, SourceLayer}
use Rattle.pl_resolved.specs.declared.query.RJoin.{RJoin, fold-RJoin, map-RJoin, out-RJoin, roll-RJoin}
use Rattle.pl_resolved.specs.declared.query.RSource.{RSource, fold-RSource, map-RSource, roll-RSource}
use Rattle.pl_resolved.specs.declared.query.RSource.TheFolds.{fold-roll-RJoin, fold-roll-RSource, ind-RSource}
use Rattle.pl_resolved.specs.declared.query.RSource.TheOpen as s
use Rattle.pl_value.specs.Frames.{Frame}
use Rattle.pl_value.specs.Meaning.{Calls, Sub, value}

module _ {W : Type 0} (calls : Calls W) (sub : Sub W) (tables : Tables) (outer : Frame) where
  -- how an item is read, by the folds themselves
  abbrev folded : RSource → Draw W
  folded = fold-RSource (Draw W) (Item W) (source_step calls sub tables outer) (join_step calls sub tables outer)

  abbrev folded_item : RJoin → Item W
  folded_item = fold-RJoin (Draw W) (Item W) (source_step calls sub tables outer) (join_step calls sub tables outer)

  abbrev meant : SourceLayer RSource RJoin → SourceLayer (Draw W) (Item W)
  meant = map-RSource RSource RJoin (Draw W) (Item W) folded folded_item

  source_rolled : (d : SourceLayer RSource RJoin) → folded (roll-RSource d) ≡ source_step calls sub tables outer (meant d)
  source_rolled d = fold-roll-RSource (Draw W) (Item W) (source_step calls sub tables outer) (join_step calls sub tables outer) d

  abbrev item_meant : JoinLayer RSource RJoin → JoinLayer (Draw W) (Item W)
  item_meant = map-RJoin RSource RJoin (Draw W) (Item W) folded folded_item

  join_rolled : (d : JoinLayer RSource RJoin) → folded_item (roll-RJoin d) ≡ join_step calls sub tables outer (item_meant d)
  join_rolled d = fold-roll-RJoin (Draw W) (Item W) (source_step calls sub tables outer) (join_step calls sub tables outer) d

module _ {W V : Type 0} (keep : W → V) where
  draws_same : (p q : Draw W) (p' q' : Draw V) → p ≡ q → p' ≡ q' → DrawsAgree keep q q' → DrawsAgree keep p p'
  draws_same p q p' q' is is' same = subst (λ (r : Draw W). DrawsAgree keep r p') (sym is) (subst (λ (r : Draw V). DrawsAgree keep q r) (sym is') same)

  items_same : (p q : Item W) (p' q' : Item V) → p ≡ q → p' ≡ q' → ItemsAgree keep q q' → ItemsAgree keep p p'
  items_same p q p' q' is is' same = subst (λ (r : Item W). ItemsAgree keep r p') (sym is) (subst (λ (r : Item V). ItemsAgree keep q r) (sym is') same)

module _ {W V : Type 0} (keep : W → V) (calls : Calls W) (calls' : Calls V) (called : CallsAgree keep calls calls') (sub : Sub W) (sub' : Sub V) (subs : SubsAgree keep sub sub') (tables : Tables) (outer : Frame) where
  abbrev SourceAgrees : RSource → Type 0
  SourceAgrees x = DrawsAgree keep (folded calls sub tables outer x) (folded calls' sub' tables outer x)

  abbrev JoinAgrees : RJoin → Type 0
  JoinAgrees x = ItemsAgree keep (folded_item calls sub tables outer x) (folded_item calls' sub' tables outer x)

  -- parts that agree
  abbrev S : Type 0
  S = Beside RSource SourceAgrees

  abbrev J : Type 0
  J = Beside RJoin JoinAgrees

  -- the parts alone
  abbrev parts : SourceLayer S J → SourceLayer RSource RJoin
  parts = map-RSource S J RSource RJoin (λ x. x.0) (λ x. x.0)

  abbrev join_parts : JoinLayer S J → JoinLayer RSource RJoin
  join_parts = map-RJoin S J RSource RJoin (λ x. x.0) (λ x. x.0)

  source_agrees : (y : SourceLayer S J)
      → DrawsAgree keep (source_step calls sub tables outer (meant calls sub tables outer (parts y))) (source_step calls' sub' tables outer (meant calls' sub' tables outer (parts y)))
  source_agrees (s.Table name) stands w = refl
  source_agrees (s.Query query) stands w = query_drawn_agrees keep sub sub' subs query outer w
  source_agrees (s.Value x) stands w = value_drawn_agrees keep (value calls sub x) (value calls' sub' x) (value_agrees keep calls calls' called sub sub' subs x) outer w
  source_agrees (s.Joined xs) stands w =
      bracketed_agrees keep (map (folded_item calls sub tables outer) (map (λ (x : J). x.0) xs)) (map (folded_item calls' sub' tables outer) (map (λ (x : J). x.0) xs))
      (each_known (ItemsAgree keep) (folded_item calls sub tables outer) (folded_item calls' sub' tables outer) xs) stands w

  join_agrees : (y : JoinLayer S J)
      → ItemsAgree keep (join_step calls sub tables outer (item_meant calls sub tables outer (join_parts y))) (join_step calls' sub' tables outer (item_meant calls' sub' tables outer (join_parts y)))
  join_agrees y = record { draw = y.source.1; left = refl; on = if_agrees keep calls calls' called sub sub' subs y.condition }

  folded_agrees : (x : RSource) → SourceAgrees x
  folded_agrees =
      ind-RSource SourceAgrees JoinAgrees
      (λ d y is. subst (λ z. SourceAgrees (roll-RSource z)) is
      (draws_same keep (folded calls sub tables outer (roll-RSource (parts y))) (source_step calls sub tables outer (meant calls sub tables outer (parts y)))
      (folded calls' sub' tables outer (roll-RSource (parts y))) (source_step calls' sub' tables outer (meant calls' sub' tables outer (parts y)))
      (source_rolled calls sub tables outer (parts y)) (source_rolled calls' sub' tables outer (parts y)) (source_agrees y)))
      (λ d y is. subst (λ z. JoinAgrees (roll-RJoin z)) is
      (items_same keep (folded_item calls sub tables outer (roll-RJoin (join_parts y))) (join_step calls sub tables outer (item_meant calls sub tables outer (join_parts y)))
      (folded_item calls' sub' tables outer (roll-RJoin (join_parts y))) (join_step calls' sub' tables outer (item_meant calls' sub' tables outer (join_parts y)))
      (join_rolled calls sub tables outer (join_parts y)) (join_rolled calls' sub' tables outer (join_parts y)) (join_agrees y)))

  draw_agrees : (x : RSource) → DrawsAgree keep (draw calls sub tables outer x) (draw calls' sub' tables outer x)
  unfolding draw
  draw_agrees = folded_agrees

  pub item_agrees : (j : RJoin) → ItemsAgree keep (item calls sub tables outer j) (item calls' sub' tables outer j)
  item_agrees j = record { draw = draw_agrees (out-RJoin j).source; left = refl; on = if_agrees keep calls calls' called sub sub' subs (out-RJoin j).condition }
