-- Operators on one operand that are read without a value.
use Rattle.std.proofs.Common.{◌≡◌, ℕ, refl, sym, ap, ◌∙◌, rules, arith, Bool, not, Option, Some, None, Ok}
use Rattle.std.specs.Prelude.{option_map}
use Rattle.pl_base.specs.declared.operator.Operator.{Operator}
use Rattle.pl_base.specs.declared.operator.Operator.TheVariants as operator
use Rattle.pl_base.specs.declared.value.Value.{Value}
use Rattle.pl_calc.specs.Answer.{Answer}
use Rattle.pl_calc.specs.Logic.{truth_value}
use Rattle.pl_calc.specs.Operators.{unary_value}
use Rattle.pl_resolved.specs.declared.expression.RExpr.{RExpr, the_lemmas}
use Rattle.pl_resolved.specs.declared.expression.RExpr.TheVariants as e
use Rattle.pl_value.specs.Combined.{repeated, then_answer}
use Rattle.pl_value.specs.Frames.{Frame}
use Rattle.pl_value.specs.Meaning.{Calls, Sub, Part, one, value}
use Rattle.pl_value.specs.Reading.{Reading, got, settled, then_read}

value_unary : {W : Type 0} (calls : Calls W) (sub : Sub W) (op : Operator) (n : ℕ) (x : RExpr) (frame : Frame) (w : W)
    → value calls sub (e.Unary op n x) frame w ≡ one (repeated op n) (value calls sub x) frame w
value_unary calls sub op n x frame w = first_of (search (rules, the_lemmas), grind (arith, the_lemmas))

pub unary_is : {W : Type 0} (calls : Calls W) (sub : Sub W) (x : RExpr) (op : Operator) (n : ℕ) (y y' : RExpr) (frame : Frame) (w : W) → x ≡ e.Unary op n y → y' ≡ y
    → value calls sub x frame w ≡ one (repeated op n) (value calls sub y') frame w
unary_is calls sub x op n y y' frame w is same =
    ap (λ (x : RExpr). value calls sub x frame w) is ∙ (value_unary calls sub op n y frame w ∙ ap (λ (y : RExpr). one (repeated op n) (value calls sub y) frame w) (sym same))

once : (op : Operator) (v : Value) → repeated op 1 v ≡ then_answer (unary_value op v) (λ v. Ok v)
unfolding repeated
once op v = refl

pub one_gives : {W : Type 0} (op : Operator) (n : ℕ) (p : Part W) (x v : Value) (frame : Frame) (w : W)
    → n ≡ 1 → p frame w ≡ got x w → unary_value op x ≡ Ok v → one (repeated op n) p frame w ≡ got v w
one_gives op n p x v frame w once-only reads gives =
    ap (λ (n : ℕ). one (repeated op n) p frame w) once-only
    ∙ (ap (λ (q : Reading _ Value). then_read q (λ v w. settled (repeated op 1 v) w)) reads
    ∙ ap (λ (a : Answer). settled a w) (once op x ∙ ap (λ (a : Answer). then_answer a (λ v. Ok v)) gives))

negated : (t : Option Bool) → unary_value operator.Not (truth_value t) ≡ Ok (truth_value (option_map not t))
negated (Some b) = refl
negated None = refl

pub not_gives : {W : Type 0} (op : Operator) (n : ℕ) (p : Part W) (t t' : Option Bool) (frame : Frame) (w : W)
    → op ≡ operator.Not → n ≡ 1 → p frame w ≡ got (truth_value t) w → t' ≡ option_map not t → one (repeated op n) p frame w ≡ got (truth_value t') w
not_gives op n p t t' frame w is once-only reads turned =
    one_gives op n p (truth_value t) (truth_value t') frame w once-only reads
    (ap (λ (op : Operator). unary_value op (truth_value t)) is ∙ (negated t ∙ ap (λ (t : Option Bool). Ok (truth_value t)) (sym turned)))
