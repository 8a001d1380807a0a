-- Products of items of FROM whose conditions need no more of the state than what is kept.
use Rattle.std.proofs.Common.{◌≡◌, refl, ap, ◌∙◌, ℕ, Bool, true, false, not, ◌&&◌, cond, List, [], ◌∷◌, ◌++◌, Option, Some, None, length, nat_lt, replicate, Ok}
use Rattle.std.specs.List.{AllZip}
use Rattle.pl_base.specs.States.{PROGRAM_LIMIT_EXCEEDED}
use Rattle.pl_natural.proofs.Goes.{BothIf, either, goes, makes}
use Rattle.pl_natural.proofs.Parts.{passes_agrees}
use Rattle.pl_natural.specs.Kept.{PartsAgree, kept}
use Rattle.pl_product.specs.Product.{More, Source, end, extended, kept as kept_rows, kept_if, over, passes, row_limit, turn}
use Rattle.pl_value.specs.Frames.{Frame}
use Rattle.pl_value.specs.Meaning.{Part}
use Rattle.pl_value.specs.Reading.{got, fails, then_read}

module _ {W V : Type 0} (keep : W → V) where
  -- what comes behind an item
  abbrev MoreAgree : More W → More V → Type 0
  MoreAgree more more' = (frame : Frame) (out : List Frame) (w : W) → more' frame out (keep w) ≡ kept keep (more frame out w)

  -- an item of FROM
  pub record SourcesAgree (s : Source W) (s' : Source V) : Type 0 where
    pub bundles : s'.bundles ≡ s.bundles
    pub leaves : s'.leaves ≡ s.leaves
    pub left : s'.is_left ≡ s.is_left
    pub on : BothIf (PartsAgree keep) s.on s'.on

  pub condition_agrees : (o : Option (Part W)) (o' : Option (Part V)) → BothIf (PartsAgree keep) o o' → (frame : Frame) (w : W)
      → passes o' frame (keep w) ≡ kept keep (passes o frame w)
  condition_agrees None None same frame w = refl
  condition_agrees None (Some p') same frame w = absurd same
  condition_agrees (Some p) None same frame w = absurd same
  condition_agrees (Some p) (Some p') same frame w = passes_agrees keep p p' same frame w

  kept_if_agrees : (b : Bool) (frame : Frame) (out : List Frame) (w : W) → kept_if b frame out (keep w) ≡ kept keep (kept_if b frame out w)
  kept_if_agrees true frame out w =
      either keep (nat_lt (length out) row_limit) (got (out ++ frame ∷ []) w) (fails PROGRAM_LIMIT_EXCEEDED w) (got (out ++ frame ∷ []) (keep w)) (fails PROGRAM_LIMIT_EXCEEDED (keep w)) refl refl
  kept_if_agrees false frame out w = refl

  kept_agrees : (o : Option (Part W)) (o' : Option (Part V)) → BothIf (PartsAgree keep) o o' → MoreAgree (kept_rows o) (kept_rows o')
  kept_agrees o o' same frame out w =
      goes keep (passes o frame w) (passes o' frame (keep w)) (λ b w. kept_if b frame out w) (λ b v. kept_if b frame out v) (condition_agrees o o' same frame w) (λ b w. kept_if_agrees b frame out w)

  module _ (more : More W) (more' : More V) (rest : MoreAgree more more') where
    turn_agrees : (o : Option (Part W)) (o' : Option (Part V)) → BothIf (PartsAgree keep) o o' → (stands : Frame) (matched : Bool) (out : List Frame) (w : W)
        → turn o' more' stands matched out (keep w) ≡ kept keep (turn o more stands matched out w)
    turn_agrees o o' same stands matched out w =
        goes keep (passes o stands w) (passes o' stands (keep w))
        (λ b w. cond b (then_read (more stands out w) (λ all w. got (true, all) w)) (got (matched, out) w))
        (λ b v. cond b (then_read (more' stands out v) (λ all v. got (true, all) v)) (got (matched, out) v))
        (condition_agrees o o' same stands w)
        (λ b w. either keep b (then_read (more stands out w) (λ all w. got (true, all) w)) (got (matched, out) w)
        (then_read (more' stands out (keep w)) (λ all v. got (true, all) v)) (got (matched, out) (keep w))
        (makes keep (λ all. Ok (true, all)) (more stands out w) (more' stands out (keep w)) (rest stands out w)) refl)

    end_agrees : (is_alone : Bool) (leaves : ℕ) → MoreAgree (end is_alone leaves more) (end is_alone leaves more')
    end_agrees is_alone leaves frame out w =
        either keep is_alone (more (frame ++ replicate leaves []) out w) (got out w) (more' (frame ++ replicate leaves []) out (keep w)) (got out (keep w)) (rest (frame ++ replicate leaves []) out w) refl

    over_agrees : (s : Source W) (s' : Source V) → SourcesAgree s s' → (bundles : List Frame) (matched : Bool) → MoreAgree (over s more bundles matched) (over s' more' bundles matched)
    over_agrees s s' same [] matched frame out w =
        ap (λ (b : Bool). end (b && not matched) s'.leaves more' frame out (keep w)) same.left
        ∙ (ap (λ (n : ℕ). end (s.is_left && not matched) n more' frame out (keep w)) same.leaves ∙ end_agrees (s.is_left && not matched) s.leaves frame out w)
    over_agrees s s' same (bundle ∷ bundles) matched frame out w =
        goes keep (turn s.on more (frame ++ bundle) matched out w) (turn s'.on more' (frame ++ bundle) matched out (keep w))
        (λ t w. over s more bundles t.0 frame t.1 w) (λ t v. over s' more' bundles t.0 frame t.1 v)
        (turn_agrees s.on s'.on same.on (frame ++ bundle) matched out w) (λ t w. over_agrees s s' same bundles t.0 frame t.1 w)

  -- the product behind the rows that stand
  pub extended_agrees : (ss : List (Source W)) (ss' : List (Source V)) → AllZip SourcesAgree ss ss' → (o : Option (Part W)) (o' : Option (Part V)) → BothIf (PartsAgree keep) o o'
      → MoreAgree (extended ss o) (extended ss' o')
  extended_agrees [] [] same o o' condition frame out w = kept_agrees o o' condition frame out w
  extended_agrees [] (s' ∷ ss') same o o' condition frame out w = absurd same
  extended_agrees (s ∷ ss) [] same o o' condition frame out w = absurd same
  extended_agrees (s ∷ ss) (s' ∷ ss') same o o' condition frame out w =
      ap (λ (bundles : List Frame). over s' (extended ss' o') bundles false frame out (keep w)) same.0.bundles
      ∙ over_agrees (extended ss o) (extended ss' o') (extended_agrees ss ss' same.1 o o' condition) s s' same.0 s.bundles false frame out w
