-- The branches of CASE, and a WHEN.
use Rattle.std.proofs.Common.{◌≡◌, refl, sym, ap, ◌∙◌, rules, arith, subst, Bool, Option, Some, None, Result, map}
use Rattle.std.specs.Option.{option_map}
use Rattle.pl_base.specs.declared.value.Value.{Value}
use Rattle.pl_calc.specs.Casts.{cast_to}
use Rattle.pl_resolved.specs.declared.expression.RCase.{RCase, out-RCase}
use Rattle.pl_resolved.specs.declared.expression.RExpr.{RExpr, the_lemmas}
use Rattle.pl_value.specs.declared.operand.Unsettled.{Unsettled}
use Rattle.pl_value.specs.Answers.{Reads}
use Rattle.pl_value.specs.Frames.{Frame}
use Rattle.pl_value.specs.Meaning.{Calls, Sub, Part, value, arm, case, cased, chosen, holds, if_there, met, one}
use Rattle.pl_value.specs.Reading.{Reading, got, settled, then_read}
use Rattle.pl_value.specs.Steps.{goes}

-- the value that CASE chooses, cast to its type
abbrev pub chosen_of : {W : Type 0} → Calls W → Sub W → RCase → Option Value → Part W
chosen_of calls sub c x =
    one (λ v. cast_to v (out-RCase c).to) (chosen x (map (arm calls sub) (out-RCase c).arms) (option_map (value calls sub) (out-RCase c).otherwise))

case_is : {W : Type 0} (calls : Calls W) (sub : Sub W) (c : RCase) (frame : Frame) (w : W)
    → case calls sub c frame w ≡ cased (option_map (value calls sub) (out-RCase c).operand) (map (arm calls sub) (out-RCase c).arms) (option_map (value calls sub) (out-RCase c).otherwise) (out-RCase c).to frame w
case_is calls sub c frame w = first_of (search (rules, the_lemmas), grind (arith, the_lemmas))

case_by : {W : Type 0} (calls : Calls W) (sub : Sub W) (c : RCase) (o : Option RExpr) (frame : Frame) (w : W) → (out-RCase c).operand ≡ o
    → case calls sub c frame w ≡ then_read {A = Option Value} (if_there (option_map (value calls sub) o) frame w) (λ x w. chosen_of calls sub c x frame w)
case_by calls sub c o frame w is =
    case_is calls sub c frame w
    ∙ ap (λ (o : Option RExpr). then_read {A = Option Value} (if_there (option_map (value calls sub) o) frame w) (λ x w. chosen_of calls sub c x frame w)) is

pub without_operand : {W : Type 0} (calls : Calls W) (sub : Sub W) (c : RCase) (frame : Frame) (w new : W) (r : Result Value Unsettled)
    → (out-RCase c).operand ≡ None → Reads {A = Value} (chosen_of calls sub c None frame w) r new → Reads {A = Value} (case calls sub c frame w) r new
without_operand {W} calls sub c frame w new r is reads =
    subst (λ (q : Reading W Value). Reads {A = Value} q r new) (sym (case_by calls sub c None frame w is)) reads

pub with_operand : {W : Type 0} (calls : Calls W) (sub : Sub W) (c : RCase) (p p' : RExpr) (v v' : Value) (frame : Frame) (w mid new : W) (r : Result Value Unsettled)
    → (out-RCase c).operand ≡ Some p → value calls sub p' frame w ≡ got v mid
    → Reads {A = Value} (chosen_of calls sub c (Some v') frame mid) r new → p' ≡ p → v' ≡ v → Reads {A = Value} (case calls sub c frame w) r new
with_operand {W} calls sub c p p' v v' frame w mid new r is gives reads same-p same-v =
    goes {A = Option Value} {B = Value} _ (if_there (Some (value calls sub p)) frame w) (λ x w. chosen_of calls sub c x frame w) (Some v) mid r new
    (case_by calls sub c (Some p) frame w is)
    (ap (λ (q : Reading W Value). then_read {B = Option Value} q (λ v w. got (Some v) w)) (ap (λ (p : RExpr). value calls sub p frame w) (sym same-p) ∙ gives))
    (subst (λ (v : Value). Reads {A = Value} (chosen_of calls sub c (Some v) frame mid) r new) same-v reads)

-- a WHEN whose value was read
pub holds_by : {W : Type 0} (p : Part W) (x : Option Value) (v v' : Value) (frame : Frame) (w mid : W) (r : Result Bool Unsettled)
    → p frame w ≡ got v mid → v' ≡ v → Reads {A = Bool} (settled (met x v') mid) r mid → Reads {A = Bool} (holds x p frame w) r mid
holds_by {W} p x v v' frame w mid r gives same reads =
    goes {A = Value} {B = Bool} _ (p frame w) (λ v w. settled (met x v) w) v mid r mid refl gives
    (subst (λ (v : Value). Reads {A = Bool} (settled (met x v) mid) r mid) same reads)
