-- Nodes whose parts need no more of the state than what is kept.
use Rattle.std.proofs.Common.{◌≡◌, refl, ap, ◌∙◌, ℕ, Bool, not, cond, List, [], ◌∷◌, ◌++◌, map, Option, Some, None, Ok}
use Rattle.std.specs.List.{AllZip}
use Rattle.pl_base.specs.declared.operator.Operator.{Operator}
use Rattle.pl_base.specs.declared.types.Ty.{Ty}
use Rattle.pl_base.specs.declared.value.Value.{Value}
use Rattle.pl_base.specs.declared.value.Value.TheVariants.{Bool as Truth}
use Rattle.pl_calc.specs.Answer.{Answer}
use Rattle.pl_calc.specs.Casts.{cast_to}
use Rattle.pl_calc.specs.Logic.{is_null, truth_of, truth_value}
use Rattle.pl_calc.specs.Operators.{binary_value}
use Rattle.pl_natural.proofs.Goes.{BothIf, either, goes, makes, settles}
use Rattle.pl_natural.specs.Kept.{PartsAgree, SubsAgree, kept}
use Rattle.pl_value.specs.Combined.{is_in}
use Rattle.pl_value.specs.Frames.{Frame, Row, first_or_null}
use Rattle.pl_value.specs.Meaning.{Pair, Part, Step, Sub, all_of, cased, chained, chosen, coalesced, exists, has_row, holds, if_there, in_query, is_fixed, is_some, joined, joint, junction, met, one, only, or_absent, passed, passes, scalar, step_read, steps_read, truth, two, values}
use Rattle.pl_value.specs.Reading.{Reading, got, settled, then_read}

module _ {W V : Type 0} (keep : W → V) where
  -- two operands, or WHEN and THEN
  abbrev pub PairsAgree : Pair W → Pair V → Type 0
  PairsAgree ps ps' = PartsAgree keep ps.0 ps'.0 × PartsAgree keep ps.1 ps'.1

  -- an operator and its second operand
  abbrev pub StepsAgree : Step W → Step V → Type 0
  StepsAgree s s' = (s'.0 ≡ s.0) × PartsAgree keep s.1 s'.1

  pub values_agree : (ps : List (Part W)) (ps' : List (Part V)) → AllZip (PartsAgree keep) ps ps' → (done : List Value) (frame : Frame) (w : W)
      → values ps' done frame (keep w) ≡ kept keep (values ps done frame w)
  values_agree [] [] same done frame w = refl
  values_agree [] (p' ∷ ps') same done frame w = absurd same
  values_agree (p ∷ ps) [] same done frame w = absurd same
  values_agree (p ∷ ps) (p' ∷ ps') same done frame w =
      goes keep (p frame w) (p' frame (keep w)) (λ x w. values ps (done ++ x ∷ []) frame w) (λ x v. values ps' (done ++ x ∷ []) frame v) (same.0 frame w)
      (λ x w. values_agree ps ps' same.1 (done ++ x ∷ []) frame w)

  truth_agrees : (p : Part W) (p' : Part V) → PartsAgree keep p p' → (frame : Frame) (w : W) → truth p' frame (keep w) ≡ kept keep (truth p frame w)
  truth_agrees p p' same frame w = makes keep truth_of (p frame w) (p' frame (keep w)) (same frame w)

  pub passes_agrees : (p : Part W) (p' : Part V) → PartsAgree keep p p' → (frame : Frame) (w : W) → passes p' frame (keep w) ≡ kept keep (passes p frame w)
  passes_agrees p p' same frame w = makes keep passed (p frame w) (p' frame (keep w)) (same frame w)

  pub one_agrees : (make : Value → Answer) (p : Part W) (p' : Part V) → PartsAgree keep p p' → PartsAgree keep (one make p) (one make p')
  one_agrees make p p' same frame w = makes keep make (p frame w) (p' frame (keep w)) (same frame w)

  joined_agrees : (b : Bool) (ps : List (Part W)) (ps' : List (Part V)) → AllZip (PartsAgree keep) ps ps' → (so_far : Option Bool) (frame : Frame) (w : W)
      → joined b ps' so_far frame (keep w) ≡ kept keep (joined b ps so_far frame w)
  joined_agrees b [] [] same so_far frame w = refl
  joined_agrees b [] (p' ∷ ps') same so_far frame w = absurd same
  joined_agrees b (p ∷ ps) [] same so_far frame w = absurd same
  joined_agrees b (p ∷ ps) (p' ∷ ps') same so_far frame w =
      goes keep (truth p frame w) (truth p' frame (keep w))
      (λ t w. cond (is_fixed b (joint b so_far t)) (got (joint b so_far t) w) (joined b ps (joint b so_far t) frame w))
      (λ t v. cond (is_fixed b (joint b so_far t)) (got (joint b so_far t) v) (joined b ps' (joint b so_far t) frame v))
      (truth_agrees p p' same.0 frame w)
      (λ t w. either keep (is_fixed b (joint b so_far t)) (got (joint b so_far t) w) (joined b ps (joint b so_far t) frame w)
      (got (joint b so_far t) (keep w)) (joined b ps' (joint b so_far t) frame (keep w)) refl (joined_agrees b ps ps' same.1 (joint b so_far t) frame w))

  pub junction_agrees : (b : Bool) (ps : List (Part W)) (ps' : List (Part V)) → AllZip (PartsAgree keep) ps ps' → PartsAgree keep (junction b ps) (junction b ps')
  junction_agrees b ps ps' same frame w =
      makes keep (λ t. Ok (truth_value t)) (joined b ps (Some (not b)) frame w) (joined b ps' (Some (not b)) frame (keep w)) (joined_agrees b ps ps' same (Some (not b)) frame w)

  step_agrees : (s : Step W) (s' : Step V) → StepsAgree s s' → (so_far : Value) (frame : Frame) (w : W)
      → step_read s' so_far frame (keep w) ≡ kept keep (step_read s so_far frame w)
  step_agrees s s' same so_far frame w =
      ap (λ (op : Operator). then_read (s'.1 frame (keep w)) (λ y v. settled (binary_value op so_far y) v)) same.0
      ∙ makes keep (binary_value s.0 so_far) (s.1 frame w) (s'.1 frame (keep w)) (same.1 frame w)

  steps_agree : (ss : List (Step W)) (ss' : List (Step V)) → AllZip StepsAgree ss ss' → (so_far : Value) (frame : Frame) (w : W)
      → steps_read ss' so_far frame (keep w) ≡ kept keep (steps_read ss so_far frame w)
  steps_agree [] [] same so_far frame w = refl
  steps_agree [] (s' ∷ ss') same so_far frame w = absurd same
  steps_agree (s ∷ ss) [] same so_far frame w = absurd same
  steps_agree (s ∷ ss) (s' ∷ ss') same so_far frame w =
      goes keep (step_read s so_far frame w) (step_read s' so_far frame (keep w)) (λ x w. steps_read ss x frame w) (λ x v. steps_read ss' x frame v)
      (step_agrees s s' same.0 so_far frame w) (λ x w. steps_agree ss ss' same.1 x frame w)

  pub chained_agrees : (p : Part W) (p' : Part V) → PartsAgree keep p p' → (ss : List (Step W)) (ss' : List (Step V)) → AllZip StepsAgree ss ss'
      → PartsAgree keep (chained p ss) (chained p' ss')
  chained_agrees p p' same ss ss' steps frame w =
      goes keep (p frame w) (p' frame (keep w)) (λ x w. steps_read ss x frame w) (λ x v. steps_read ss' x frame v) (same frame w) (λ x w. steps_agree ss ss' steps x frame w)

  pub two_agrees : (op : Operator) (ps : Pair W) (ps' : Pair V) → PairsAgree ps ps' → PartsAgree keep (two op ps) (two op ps')
  two_agrees op ps ps' same frame w =
      goes keep (ps.0 frame w) (ps'.0 frame (keep w))
      (λ x w. then_read (ps.1 frame w) (λ y w. settled (binary_value op x y) w)) (λ x v. then_read (ps'.1 frame v) (λ y v. settled (binary_value op x y) v))
      (same.0 frame w) (λ x w. makes keep (binary_value op x) (ps.1 frame w) (ps'.1 frame (keep w)) (same.1 frame w))

  pub coalesced_agrees : (to : Ty) (ps : List (Part W)) (ps' : List (Part V)) → AllZip (PartsAgree keep) ps ps' → PartsAgree keep (coalesced to ps) (coalesced to ps')
  coalesced_agrees to [] [] same frame w = refl
  coalesced_agrees to [] (p' ∷ ps') same frame w = absurd same
  coalesced_agrees to (p ∷ ps) [] same frame w = absurd same
  coalesced_agrees to (p ∷ ps) (p' ∷ ps') same frame w =
      goes keep (p frame w) (p' frame (keep w))
      (λ x w. cond (is_null x) (coalesced to ps frame w) (settled (cast_to x to) w)) (λ x v. cond (is_null x) (coalesced to ps' frame v) (settled (cast_to x to) v))
      (same.0 frame w)
      (λ x w. either keep (is_null x) (coalesced to ps frame w) (settled (cast_to x to) w) (coalesced to ps' frame (keep w)) (settled (cast_to x to) (keep w))
      (coalesced_agrees to ps ps' same.1 frame w) (settles keep (cast_to x to) w))

  holds_agrees : (x : Option Value) (p : Part W) (p' : Part V) → PartsAgree keep p p' → (frame : Frame) (w : W) → holds x p' frame (keep w) ≡ kept keep (holds x p frame w)
  holds_agrees x p p' same frame w = makes keep (met x) (p frame w) (p' frame (keep w)) (same frame w)

  pub or_absent_agrees : (o : Option (Part W)) (o' : Option (Part V)) → BothIf (PartsAgree keep) o o' → PartsAgree keep (or_absent o) (or_absent o')
  or_absent_agrees None None same frame w = refl
  or_absent_agrees None (Some p') same frame w = absurd same
  or_absent_agrees (Some p) None same frame w = absurd same
  or_absent_agrees (Some p) (Some p') same frame w = same frame w

  chosen_agrees : (x : Option Value) (arms : List (Pair W)) (arms' : List (Pair V)) → AllZip PairsAgree arms arms'
      → (o : Option (Part W)) (o' : Option (Part V)) → BothIf (PartsAgree keep) o o' → PartsAgree keep (chosen x arms o) (chosen x arms' o')
  chosen_agrees x [] [] same o o' otherwise frame w = or_absent_agrees o o' otherwise frame w
  chosen_agrees x [] (a' ∷ arms') same o o' otherwise frame w = absurd same
  chosen_agrees x (a ∷ arms) [] same o o' otherwise frame w = absurd same
  chosen_agrees x (a ∷ arms) (a' ∷ arms') same o o' otherwise frame w =
      goes keep (holds x a.0 frame w) (holds x a'.0 frame (keep w))
      (λ b w. cond b (a.1 frame w) (chosen x arms o frame w)) (λ b v. cond b (a'.1 frame v) (chosen x arms' o' frame v))
      (holds_agrees x a.0 a'.0 same.0.0 frame w)
      (λ b w. either keep b (a.1 frame w) (chosen x arms o frame w) (a'.1 frame (keep w)) (chosen x arms' o' frame (keep w)) (same.0.1 frame w) (chosen_agrees x arms arms' same.1 o o' otherwise frame w))

  if_there_agrees : (o : Option (Part W)) (o' : Option (Part V)) → BothIf (PartsAgree keep) o o' → (frame : Frame) (w : W)
      → if_there o' frame (keep w) ≡ kept keep (if_there o frame w)
  if_there_agrees None None same frame w = refl
  if_there_agrees None (Some p') same frame w = absurd same
  if_there_agrees (Some p) None same frame w = absurd same
  if_there_agrees (Some p) (Some p') same frame w = makes keep (λ x. Ok (Some x)) (p frame w) (p' frame (keep w)) (same frame w)

  pub cased_agrees : (p : Option (Part W)) (p' : Option (Part V)) → BothIf (PartsAgree keep) p p'
      → (arms : List (Pair W)) (arms' : List (Pair V)) → AllZip PairsAgree arms arms'
      → (o : Option (Part W)) (o' : Option (Part V)) → BothIf (PartsAgree keep) o o'
      → (to : Ty) → PartsAgree keep (cased p arms o to) (cased p' arms' o' to)
  cased_agrees p p' operand arms arms' branches o o' otherwise to frame w =
      goes keep (if_there p frame w) (if_there p' frame (keep w))
      (λ x w. one (λ v. cast_to v to) (chosen x arms o) frame w) (λ x v. one (λ v. cast_to v to) (chosen x arms' o') frame v)
      (if_there_agrees p p' operand frame w)
      (λ x w. one_agrees (λ v. cast_to v to) (chosen x arms o) (chosen x arms' o') (chosen_agrees x arms arms' branches o o' otherwise) frame w)

  pub all_agree : (make : List Value → W → Reading W Value) (make' : List Value → V → Reading V Value) → ((vs : List Value) (w : W) → make' vs (keep w) ≡ kept keep (make vs w))
      → (ps : List (Part W)) (ps' : List (Part V)) → AllZip (PartsAgree keep) ps ps' → PartsAgree keep (all_of make ps) (all_of make' ps')
  all_agree make make' made ps ps' same frame w =
      goes keep (values ps [] frame w) (values ps' [] frame (keep w)) (λ vs w. make vs w) (λ vs v. make' vs v) (values_agree ps ps' same [] frame w) made

  only_agrees : (rows : List Row) (w : W) → only rows (keep w) ≡ kept keep (only rows w)
  only_agrees [] w = refl
  only_agrees (row ∷ []) w = refl
  only_agrees (row ∷ more ∷ rows) w = refl

  module _ (sub : Sub W) (sub' : Sub V) (subs : SubsAgree keep sub sub') where
    pub scalar_agrees : (query : ℕ) → PartsAgree keep (scalar sub query) (scalar sub' query)
    scalar_agrees query frame w =
        goes keep (sub query frame w) (sub' query frame (keep w)) (λ rows w. only rows w) (λ rows v. only rows v) (subs query frame w) only_agrees

    pub exists_agrees : (query : ℕ) → PartsAgree keep (exists sub query) (exists sub' query)
    exists_agrees query frame w =
        makes keep (λ b. Ok (Truth b)) (has_row sub query frame w) (has_row sub' query frame (keep w))
        (makes keep (λ rows. Ok (is_some rows)) (sub query frame w) (sub' query frame (keep w)) (subs query frame w))

    pub in_query_agrees : (p : Part W) (p' : Part V) → PartsAgree keep p p' → (query : ℕ) (to : Ty) → PartsAgree keep (in_query sub p query to) (in_query sub' p' query to)
    in_query_agrees p p' same query to frame w =
        goes keep (p frame w) (p' frame (keep w))
        (λ x w. then_read (sub query frame w) (λ rows w. settled (is_in to x (map first_or_null rows)) w))
        (λ x v. then_read (sub' query frame v) (λ rows v. settled (is_in to x (map first_or_null rows)) v))
        (same frame w)
        (λ x w. makes keep (λ rows. is_in to x (map first_or_null rows)) (sub query frame w) (sub' query frame (keep w)) (subs query frame w))
