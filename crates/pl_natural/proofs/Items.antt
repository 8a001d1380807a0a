-- Items of FROM that need no more of the state than what is kept.
use Rattle.std.proofs.Common.{◌≡◌, refl, ℕ, ◌+◌, List, [], ◌∷◌, ◌++◌, Option, None, Ok, length, map, drop, nat_lt, replicate}
use Rattle.std.specs.Prelude.{sum_by}
use Rattle.std.specs.List.{AllZip}
use Rattle.pl_base.specs.States.{STATEMENT_TOO_COMPLEX}
use Rattle.pl_natural.proofs.Goes.{BothIf, either, goes, makes}
use Rattle.pl_natural.proofs.Products.{SourcesAgree, extended_agrees}
use Rattle.pl_natural.specs.Kept.{PartsAgree, SubsAgree, kept}
use Rattle.pl_product.specs.Product.{extended}
use Rattle.pl_query.specs.Sources.{Draw, Drawn, Item, alone, bracket, bracketed, drawn, frames, leaves, query_drawn, source, sources, standing, standing_limit, together, value_drawn}
use Rattle.pl_value.specs.Frames.{Frame}
use Rattle.pl_value.specs.Meaning.{Part, Sub}
use Rattle.pl_value.specs.Reading.{fails}

module _ {W V : Type 0} (keep : W → V) where
  -- how an item is read
  abbrev pub DrawsAgree : Draw W → Draw V → Type 0
  DrawsAgree d d' = (stands : Frame) (w : W) → d' stands (keep w) ≡ kept keep (d stands w)

  pub record ItemsAgree (i : Item W) (i' : Item V) : Type 0 where
    pub draw : DrawsAgree i.draw i'.draw
    pub left : i'.is_left ≡ i.is_left
    pub on : BothIf (PartsAgree keep) i.on i'.on

  pub drawn_agrees : (is : List (Item W)) (is' : List (Item V)) → AllZip ItemsAgree is is' → (done : List Drawn) (stands : Frame) (w : W)
      → drawn is' done stands (keep w) ≡ kept keep (drawn is done stands w)
  drawn_agrees [] [] same done stands w = refl
  drawn_agrees [] (i' ∷ is') same done stands w = absurd same
  drawn_agrees (i ∷ is) [] same done stands w = absurd same
  drawn_agrees (i ∷ is) (i' ∷ is') same done stands w =
      goes keep (i.draw stands w) (i'.draw stands (keep w))
      (λ d w. drawn is (done ++ d ∷ []) (stands ++ replicate (leaves d) []) w) (λ d v. drawn is' (done ++ d ∷ []) (stands ++ replicate (leaves d) []) v)
      (same.0.draw stands w) (λ d w. drawn_agrees is is' same.1 (done ++ d ∷ []) (stands ++ replicate (leaves d) []) w)

  source_agrees : (i : Item W) (i' : Item V) → ItemsAgree i i' → (d : Drawn) → SourcesAgree keep (source i d) (source i' d)
  source_agrees i i' same d = record { bundles = refl; leaves = refl; left = same.left; on = same.on }

  sources_agree : (is : List (Item W)) (is' : List (Item V)) → AllZip ItemsAgree is is' → (ds : List Drawn) → AllZip (SourcesAgree keep) (sources is ds) (sources is' ds)
  sources_agree [] [] same ds = tt
  sources_agree [] (i' ∷ is') same ds = absurd same
  sources_agree (i ∷ is) [] same ds = absurd same
  sources_agree (i ∷ is) (i' ∷ is') same [] = tt
  sources_agree (i ∷ is) (i' ∷ is') same (d ∷ ds) = (source_agrees i i' same.0 d, sources_agree is is' same.1 ds)

  module _ (is : List (Item W)) (is' : List (Item V)) (same : AllZip ItemsAgree is is') where
    together_agrees : (ds : List Drawn) (o : Option (Part W)) (o' : Option (Part V)) → BothIf (PartsAgree keep) o o' → (stands : Frame) (w : W)
        → together is' ds o' stands (keep w) ≡ kept keep (together is ds o stands w)
    together_agrees ds o o' condition stands w =
        either keep (nat_lt standing_limit (length stands + sum_by leaves ds)) (fails STATEMENT_TOO_COMPLEX w) (extended (sources is ds) o stands [] w)
        (fails STATEMENT_TOO_COMPLEX (keep w)) (extended (sources is' ds) o' stands [] (keep w)) refl
        (extended_agrees keep (sources is ds) (sources is' ds) (sources_agree is is' same ds) o o' condition stands [] w)

    pub standing_agrees : (ds : List Drawn) (o : Option (Part W)) (o' : Option (Part V)) → BothIf (PartsAgree keep) o o' → (stands : Frame) (w : W)
        → standing is' ds o' stands (keep w) ≡ kept keep (standing is ds o stands w)
    standing_agrees ds o o' condition stands w =
        makes keep (λ all. Ok (sum_by leaves ds, all)) (together is ds o stands w) (together is' ds o' stands (keep w)) (together_agrees ds o o' condition stands w)

    bracket_agrees : (ds : List Drawn) (stands : Frame) (w : W) → bracket is' ds stands (keep w) ≡ kept keep (bracket is ds stands w)
    bracket_agrees ds stands w =
        makes keep (λ d. Ok (leaves d, map (drop (length stands)) (frames d))) (standing is ds None stands w) (standing is' ds None stands (keep w)) (standing_agrees ds None None tt stands w)

    pub bracketed_agrees : DrawsAgree (bracketed is) (bracketed is')
    bracketed_agrees stands w =
        goes keep (drawn is [] stands w) (drawn is' [] stands (keep w)) (λ ds w. bracket is ds stands w) (λ ds v. bracket is' ds stands v)
        (drawn_agrees is is' same [] stands w) (λ ds w. bracket_agrees ds stands w)

  pub query_drawn_agrees : (sub : Sub W) (sub' : Sub V) → SubsAgree keep sub sub' → (query : ℕ) → DrawsAgree (query_drawn sub query) (query_drawn sub' query)
  query_drawn_agrees sub sub' subs query outer w = makes keep (λ rows. Ok (alone rows)) (sub query outer w) (sub' query outer (keep w)) (subs query outer w)

  pub value_drawn_agrees : (p : Part W) (p' : Part V) → PartsAgree keep p p' → DrawsAgree (value_drawn p) (value_drawn p')
  value_drawn_agrees p p' same outer w = makes keep (λ x. Ok (alone ((x ∷ []) ∷ []))) (p outer w) (p' outer (keep w)) (same outer w)
