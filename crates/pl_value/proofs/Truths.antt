-- Conditions that are read as truths.
use Rattle.std.proofs.Common.{◌≡◌, refl, ap, ◌∙◌, Bool, true, false, Option, Some, None, Result, Ok, Err, List, map}
use Rattle.pl_base.specs.declared.state.State.{State}
use Rattle.pl_base.specs.declared.value.Value.{Value}
use Rattle.pl_base.specs.declared.value.Value.TheVariants.{Bool as Truth}
use Rattle.pl_calc.specs.Logic.{truth_of, truth_value}
use Rattle.pl_resolved.specs.declared.expression.RExpr.{RExpr}
use Rattle.pl_resolved.specs.declared.expression.RExpr.TheVariants as e
use Rattle.pl_value.specs.Frames.{Frame}
use Rattle.pl_value.specs.Meaning.{Calls, Sub, Part, value, truth, passes, passed, joined, so, is_so}
use Rattle.pl_value.specs.Reading.{Reading, got, fails, settled, then_read}
use Rattle.pl_value.proofs.Lists.{and_is, or_is}

-- the truth that a reading gives
abbrev pub truth_of_it : {W : Type 0} → Reading W Value → Reading W (Option Bool)
truth_of_it q = then_read q (λ v w. settled (truth_of v) w)

value_gone : {W : Type 0} (t : Option Bool) (w : W) → settled {A = Option Bool} (truth_of (truth_value t)) w ≡ got t w
value_gone (Some b) w = refl
value_gone None w = refl

pub truth_gives : {W : Type 0} (p : Part W) (t : Option Bool) (frame : Frame) (w : W) → p frame w ≡ got (truth_value t) w → truth p frame w ≡ got t w
truth_gives p t frame w reads = ap truth_of_it reads ∙ value_gone t w

joined_truth : {W : Type 0} (q : Reading W (Option Bool)) → truth_of_it (then_read {B = Value} q (λ t w. got (truth_value t) w)) ≡ q
joined_truth (got t w) = value_gone t w
joined_truth (fails state w) = refl

pub and_truth : {W : Type 0} (calls : Calls W) (sub : Sub W) (x : RExpr) (ps ps' : List RExpr) (frame : Frame) (w : W) → x ≡ e.And ps → ps' ≡ ps
    → truth (value calls sub x) frame w ≡ joined false (map (value calls sub) ps') (Some true) frame w
and_truth calls sub x ps ps' frame w is same =
    ap truth_of_it (and_is calls sub x ps ps' frame w is same) ∙ joined_truth (joined false (map (value calls sub) ps') (Some true) frame w)

pub or_truth : {W : Type 0} (calls : Calls W) (sub : Sub W) (x : RExpr) (ps ps' : List RExpr) (frame : Frame) (w : W) → x ≡ e.Or ps → ps' ≡ ps
    → truth (value calls sub x) frame w ≡ joined true (map (value calls sub) ps') (Some false) frame w
or_truth calls sub x ps ps' frame w is same =
    ap truth_of_it (or_is calls sub x ps ps' frame w is same) ∙ joined_truth (joined true (map (value calls sub) ps') (Some false) frame w)

so_settled : {W : Type 0} (t : Result (Option Bool) State) (w : W) → settled {A = Bool} (so t) w ≡ then_read {A = Option Bool} (settled t w) (λ t w. got (is_so t) w)
so_settled (Ok t) w = refl
so_settled (Err state) w = refl

passes_in : {W : Type 0} (q : Reading W Value) → then_read {B = Bool} q (λ v w. settled (passed v) w) ≡ then_read {A = Option Bool} (truth_of_it q) (λ t w. got (is_so t) w)
passes_in (got v w) = so_settled (truth_of v) w
passes_in (fails state w) = refl

pub passes_is : {W : Type 0} (p : Part W) (frame : Frame) (w : W) → passes p frame w ≡ then_read {A = Option Bool} (truth p frame w) (λ t w. got (is_so t) w)
passes_is p frame w = passes_in (p frame w)

pub passes_gives : {W : Type 0} (p : Part W) (b : Bool) (frame : Frame) (w : W) → p frame w ≡ got (Truth b) w → passes p frame w ≡ got b w
passes_gives p b frame w reads = ap (λ (q : Reading _ Value). then_read {B = Bool} q (λ v w. settled (passed v) w)) reads
