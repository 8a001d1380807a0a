-- AND and OR, operand after operand, as the code reads them.
use Rattle.std.proofs.Common.{◌≡◌, ◌≢◌, ◌<◌, ◌≤◌, ◌+◌, ◌∙◌, ap, refl, sym, rules, arith, ℕ, Bool, true, false, List, ◌∷◌, map, length, drop, get_or, add-one, drop-cons, drop_of_length-le, Option, Some, not}
use Rattle.std.specs.Prelude.{if◌then◌else◌}
use Rattle.pl_base.specs.declared.value.Value.{Value}
use Rattle.pl_base.specs.declared.value.Value.TheVariants.{Bool as Truth}
use Rattle.pl_calc.specs.Logic.{truth_of}
use Rattle.pl_resolved.specs.declared.expression.RExpr.{RExpr, the_lemmas}
use Rattle.pl_resolved.specs.declared.expression.RExpr.TheVariants as e
use Rattle.pl_value.specs.Frames.{Frame}
use Rattle.pl_value.specs.Meaning.{Calls, Sub, is_fixed, joined, joint, junction, value}
use Rattle.pl_value.specs.Reading.{Reading, got, settled, then_read}

-- ---- kinds of trees

module _ {W : Type 0} (calls : Calls W) (sub : Sub W) (frame : Frame) (w : W) where
  value_and : (ys : List RExpr) → value calls sub (e.And ys) frame w ≡ junction false (map (value calls sub) ys) frame w
  value_and ys = first_of (search (rules, the_lemmas), grind (arith, the_lemmas))

  value_or : (ys : List RExpr) → value calls sub (e.Or ys) frame w ≡ junction true (map (value calls sub) ys) frame w
  value_or ys = first_of (search (rules, the_lemmas), grind (arith, the_lemmas))

  pub and_value : (x : RExpr) (ys ys' : List RExpr) → x ≡ e.And ys → ys' ≡ ys → value calls sub x frame w ≡ junction false (map (value calls sub) ys') frame w
  and_value x ys ys' is same = ap (λ (x : RExpr). value calls sub x frame w) is ∙ (value_and ys ∙ ap (λ (ys : List RExpr). junction false (map (value calls sub) ys) frame w) (sym same))

  pub or_value : (x : RExpr) (ys ys' : List RExpr) → x ≡ e.Or ys → ys' ≡ ys → value calls sub x frame w ≡ junction true (map (value calls sub) ys') frame w
  or_value x ys ys' is same = ap (λ (x : RExpr). value calls sub x frame w) is ∙ (value_or ys ∙ ap (λ (ys : List RExpr). junction true (map (value calls sub) ys) frame w) (sym same))

-- ---- one after another

front : {A : Type 0} (xs : List A) (i : ℕ) (x : A) → i < length xs → x ≡ get_or xs i x → drop i xs ≡ x ∷ drop (i + 1) xs
front xs i x lt is = rw (add-one, drop-cons xs i x lt, ← is) refl

module _ {W : Type 0} (calls : Calls W) (sub : Sub W) (frame : Frame) (w : W) where
  joint_on : (fixed t : Bool) (rest : Option Bool → Reading W (Option Bool)) → t ≢ fixed
      → (let q : Reading W (Option Bool) = if is_fixed fixed (joint fixed (Some (not fixed)) (Some t)) then got (joint fixed (Some (not fixed)) (Some t)) w else rest (joint fixed (Some (not fixed)) (Some t)) in q) ≡ rest (Some (not fixed))
  joint_on true true rest other = absurd (other refl)
  joint_on true false rest other = refl
  joint_on false true rest other = refl
  joint_on false false rest other = absurd (other refl)

  joint_fixed : (fixed : Bool) (rest : Option Bool → Reading W (Option Bool))
      → (let q : Reading W (Option Bool) = if is_fixed fixed (joint fixed (Some (not fixed)) (Some fixed)) then got (joint fixed (Some (not fixed)) (Some fixed)) w else rest (joint fixed (Some (not fixed)) (Some fixed)) in q) ≡ got (Some fixed) w
  joint_fixed true rest = refl
  joint_fixed false rest = refl

  abbrev left : Bool → List RExpr → Option Bool → W → Reading W (Option Bool)
  left fixed xs t w = joined fixed (map (value calls sub) xs) t frame w

  truths_here : (fixed : Bool) (x : RExpr) (xs : List RExpr) (t : Bool) → value calls sub x frame w ≡ got (Truth t) w
      → left fixed (x ∷ xs) (Some (not fixed)) w ≡ (let q : Reading W (Option Bool) = if is_fixed fixed (joint fixed (Some (not fixed)) (Some t)) then got (joint fixed (Some (not fixed)) (Some t)) w else left fixed xs (joint fixed (Some (not fixed)) (Some t)) w in q)
  truths_here fixed x xs t is = ap (λ (q : Reading W Value). then_read (then_read q (λ v w. settled (truth_of v) w)) (λ t w.
      if is_fixed fixed (joint fixed (Some (not fixed)) t) then got (joint fixed (Some (not fixed)) t) w
      else joined fixed (map (value calls sub) xs) (joint fixed (Some (not fixed)) t) frame w)) is

  pub truths_on : {whole : Reading W (Option Bool)} (fixed : Bool) (xs : List RExpr) (i : ℕ) (x : RExpr) (t : Bool) → i < length xs → x ≡ get_or xs i x
      → whole ≡ left fixed (drop i xs) (Some (not fixed)) w → value calls sub x frame w ≡ got (Truth t) w → t ≢ fixed
      → whole ≡ left fixed (drop (i + 1) xs) (Some (not fixed)) w
  truths_on fixed xs i x t lt is reads truth other =
      reads
      ∙ (ap (λ (ys : List RExpr). left fixed ys (Some (not fixed)) w) (front xs i x lt is)
      ∙ (truths_here fixed x (drop (i + 1) xs) t truth ∙ joint_on fixed t (λ t. left fixed (drop (i + 1) xs) t w) other))

  pub truths_fixed : {whole : Reading W (Option Bool)} (fixed : Bool) (xs : List RExpr) (i : ℕ) (x : RExpr) (t : Bool) → i < length xs → x ≡ get_or xs i x
      → whole ≡ left fixed (drop i xs) (Some (not fixed)) w → value calls sub x frame w ≡ got (Truth t) w → t ≡ fixed
      → whole ≡ got (Some fixed) w
  truths_fixed fixed xs i x t lt is reads truth same =
      reads
      ∙ (ap (λ (ys : List RExpr). left fixed ys (Some (not fixed)) w) (front xs i x lt is)
      ∙ (truths_here fixed x (drop (i + 1) xs) fixed (truth ∙ ap (λ (t : Bool). got (Truth t) w) same) ∙ joint_fixed fixed (λ t. left fixed (drop (i + 1) xs) t w)))

  pub truths_end : {whole : Reading W (Option Bool)} (fixed : Bool) (xs : List RExpr) (i : ℕ) → length xs ≤ i → whole ≡ left fixed (drop i xs) (Some (not fixed)) w → whole ≡ got (Some (not fixed)) w
  truths_end fixed xs i le reads = reads ∙ ap (λ (ys : List RExpr). left fixed ys (Some (not fixed)) w) (drop_of_length-le xs le)
