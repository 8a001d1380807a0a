-- Groups and select lists whose parts need no more of the state than what is kept.
use Rattle.std.proofs.Common.{◌≡◌, refl, ap, ap₂, ◌∙◌, ℕ, cond, List, [], ◌∷◌, ◌++◌, Option, Some, None, Ok, map}
use Rattle.std.specs.List.{AllZip}
use Rattle.pl_calc.specs.Answer.{Answer}
use Rattle.pl_natural.proofs.Goes.{BothIf, either, goes, makes, settles}
use Rattle.pl_natural.proofs.Parts.{values_agree}
use Rattle.pl_natural.proofs.Products.{condition_agrees}
use Rattle.pl_natural.specs.Kept.{PartsAgree, kept}
use Rattle.pl_product.specs.Product.{passes}
use Rattle.pl_query.specs.Rows.{Aggregation, Grouping, Member, answers, arguments, first_rows, grouped, in_turn, selected, with_group, with_member, with_row, with_row_if, with_value}
use Rattle.pl_query.specs.Sources.{Drawn, frames, leaves}
use Rattle.pl_resolved.specs.declared.query.Aggregate.{Aggregate}
use Rattle.pl_value.specs.Frames.{Frame, Row}
use Rattle.pl_value.specs.Meaning.{Part, values}
use Rattle.pl_value.specs.Reading.{Reading, got, settled, then_read}

module _ {W V : Type 0} (keep : W → V) where
  pub record AggregationsAgree (a : Aggregation W) (a' : Aggregation V) : Type 0 where
    pub aggregate : a'.aggregate ≡ a.aggregate
    pub first : PartsAgree keep a.first a'.first
    pub second : PartsAgree keep a.second a'.second

  pub record GroupingsAgree (g : Grouping W) (g' : Grouping V) : Type 0 where
    pub keys : AllZip (PartsAgree keep) g.keys g'.keys
    pub aggregations : AllZip AggregationsAgree g.aggregations g'.aggregations
    pub having : BothIf (PartsAgree keep) g.having g'.having

  -- what a thing adds
  abbrev AddsAgree : {A B : Type 0} → (A → B → W → Reading W B) → (A → B → V → Reading V B) → Type 0
  AddsAgree {A} {B} adds adds' = (x : A) (done : B) (w : W) → adds' x done (keep w) ≡ kept keep (adds x done w)

  turns_agree : {A B : Type 0} (adds : A → B → W → Reading W B) (adds' : A → B → V → Reading V B) → AddsAgree adds adds' → (xs : List A) (done : B) (w : W)
      → in_turn adds' xs done (keep w) ≡ kept keep (in_turn adds xs done w)
  turns_agree adds adds' same [] done w = refl
  turns_agree adds adds' same (x ∷ xs) done w =
      goes keep (adds x done w) (adds' x done (keep w)) (λ more w. in_turn adds xs more w) (λ more v. in_turn adds' xs more v) (same x done w) (λ more w. turns_agree adds adds' same xs more w)

  row_agrees : (ps : List (Part W)) (ps' : List (Part V)) → AllZip (PartsAgree keep) ps ps' → AddsAgree (with_row ps) (with_row ps')
  row_agrees ps ps' same frame done w =
      makes keep (λ row. Ok (done ++ row ∷ [])) (values ps [] frame w) (values ps' [] frame (keep w)) (values_agree keep ps ps' same [] frame w)

  arguments_agree : (all : List (Aggregation W)) (all' : List (Aggregation V)) → AllZip AggregationsAgree all all' → (frame : Frame) (w : W)
      → arguments all' frame (keep w) ≡ kept keep (arguments all frame w)
  arguments_agree [] [] same frame w = refl
  arguments_agree [] (a' ∷ all') same frame w = absurd same
  arguments_agree (a ∷ all) [] same frame w = absurd same
  arguments_agree (a ∷ all) (a' ∷ all') same frame w =
      goes keep (a.first frame w) (a'.first frame (keep w))
      (λ x w. then_read (a.second frame w) (λ y w. then_read (arguments all frame w) (λ pairs w. got ((x, y) ∷ pairs) w)))
      (λ x v. then_read (a'.second frame v) (λ y v. then_read (arguments all' frame v) (λ pairs v. got ((x, y) ∷ pairs) v)))
      (same.0.first frame w)
      (λ x w. goes keep (a.second frame w) (a'.second frame (keep w))
      (λ y w. then_read (arguments all frame w) (λ pairs w. got ((x, y) ∷ pairs) w))
      (λ y v. then_read (arguments all' frame v) (λ pairs v. got ((x, y) ∷ pairs) v))
      (same.0.second frame w)
      (λ y w. makes keep (λ pairs. Ok ((x, y) ∷ pairs)) (arguments all frame w) (arguments all' frame (keep w)) (arguments_agree all all' same.1 frame w)))

  value_agrees : (answer : Answer) (done : Row) (w : W) → with_value answer done (keep w) ≡ kept keep (with_value answer done w)
  value_agrees answer done w = makes keep (λ x. Ok (done ++ x ∷ [])) (settled answer w) (settled answer (keep w)) (settles keep answer w)

  kinds_same : (all : List (Aggregation W)) (all' : List (Aggregation V)) → AllZip AggregationsAgree all all'
      → map (λ (a : Aggregation V). a.aggregate) all' ≡ map (λ (a : Aggregation W). a.aggregate) all
  kinds_same [] [] same = refl
  kinds_same [] (a' ∷ all') same = absurd same
  kinds_same (a ∷ all) [] same = absurd same
  kinds_same (a ∷ all) (a' ∷ all') same = ap₂ (λ (x : Aggregate) (xs : List Aggregate). x ∷ xs) same.0.aggregate (kinds_same all all' same.1)

  grouped_same : (ks : List (Part W)) (ks' : List (Part V)) → AllZip (PartsAgree keep) ks ks' → (ms : List Member) → grouped ks' ms ≡ grouped ks ms
  grouped_same [] [] same ms = refl
  grouped_same [] (k' ∷ ks') same ms = absurd same
  grouped_same (k ∷ ks) [] same ms = absurd same
  grouped_same (k ∷ ks) (k' ∷ ks') same ms = refl

  module _ (g : Grouping W) (g' : Grouping V) (same : GroupingsAgree g g') where
    member_agrees : AddsAgree (with_member g) (with_member g')
    member_agrees frame done w =
        goes keep (values g.keys [] frame w) (values g'.keys [] frame (keep w))
        (λ keys w. then_read (arguments g.aggregations frame w) (λ pairs w. got (done ++ record { frame = frame; keys = keys; arguments = pairs } ∷ []) w))
        (λ keys v. then_read (arguments g'.aggregations frame v) (λ pairs v. got (done ++ record { frame = frame; keys = keys; arguments = pairs } ∷ []) v))
        (values_agree keep g.keys g'.keys same.keys [] frame w)
        (λ keys w. makes keep (λ pairs. Ok (done ++ record { frame = frame; keys = keys; arguments = pairs } ∷ []))
        (arguments g.aggregations frame w) (arguments g'.aggregations frame (keep w)) (arguments_agree g.aggregations g'.aggregations same.aggregations frame w))

    module _ (items : List (Part W)) (items' : List (Part V)) (alike : AllZip (PartsAgree keep) items items') where
      row_if_agrees : (frame : Frame) (done : List Row) (w : W) → with_row_if g'.having items' frame done (keep w) ≡ kept keep (with_row_if g.having items frame done w)
      row_if_agrees frame done w =
          goes keep (passes g.having frame w) (passes g'.having frame (keep w))
          (λ b w. cond b (with_row items frame done w) (got done w)) (λ b v. cond b (with_row items' frame done v) (got done v))
          (condition_agrees keep g.having g'.having same.having frame w)
          (λ b w. either keep b (with_row items frame done w) (got done w) (with_row items' frame done (keep w)) (got done (keep w)) (row_agrees items items' alike frame done w) refl)

      group_agrees : (outer : Frame) (leaves : ℕ) → AddsAgree (with_group g items outer leaves) (with_group g' items' outer leaves)
      group_agrees outer leaves ms done w =
          ap (λ (kinds : List Aggregate). then_read (in_turn with_value (answers 0 kinds ms) [] (keep w)) (λ row v. with_row_if g'.having items' (outer ++ row ∷ first_rows outer leaves ms) done v))
          (kinds_same g.aggregations g'.aggregations same.aggregations)
          ∙ goes keep (in_turn with_value (answers 0 (map (λ (a : Aggregation W). a.aggregate) g.aggregations) ms) [] w)
          (in_turn with_value (answers 0 (map (λ (a : Aggregation W). a.aggregate) g.aggregations) ms) [] (keep w))
          (λ row w. with_row_if g.having items (outer ++ row ∷ first_rows outer leaves ms) done w)
          (λ row v. with_row_if g'.having items' (outer ++ row ∷ first_rows outer leaves ms) done v)
          (turns_agree with_value with_value value_agrees (answers 0 (map (λ (a : Aggregation W). a.aggregate) g.aggregations) ms) [] w)
          (λ row w. row_if_agrees (outer ++ row ∷ first_rows outer leaves ms) done w)

      groups_agree : (outer : Frame) (d : Drawn) (w : W) → selected (Some g') items' outer d (keep w) ≡ kept keep (selected (Some g) items outer d w)
      groups_agree outer d w =
          goes keep (in_turn (with_member g) (frames d) [] w) (in_turn (with_member g') (frames d) [] (keep w))
          (λ ms w. in_turn (with_group g items outer (leaves d)) (grouped g.keys ms) [] w) (λ ms v. in_turn (with_group g' items' outer (leaves d)) (grouped g'.keys ms) [] v)
          (turns_agree (with_member g) (with_member g') member_agrees (frames d) [] w)
          (λ ms w. ap (λ (them : List (List Member)). in_turn (with_group g' items' outer (leaves d)) them [] (keep w)) (grouped_same g.keys g'.keys same.keys ms)
          ∙ turns_agree (with_group g items outer (leaves d)) (with_group g' items' outer (leaves d)) (group_agrees outer (leaves d)) (grouped g.keys ms) [] w)

  pub selected_agrees : (o : Option (Grouping W)) (o' : Option (Grouping V)) → BothIf GroupingsAgree o o'
      → (items : List (Part W)) (items' : List (Part V)) → AllZip (PartsAgree keep) items items' → (outer : Frame) (d : Drawn) (w : W)
      → selected o' items' outer d (keep w) ≡ kept keep (selected o items outer d w)
  selected_agrees None None groups items items' same outer d w = turns_agree (with_row items) (with_row items') (row_agrees items items' same) (frames d) [] w
  selected_agrees None (Some g') groups items items' same outer d w = absurd groups
  selected_agrees (Some g) None groups items items' same outer d w = absurd groups
  selected_agrees (Some g) (Some g') groups items items' same outer d w = groups_agree g g' groups items items' same outer d w
