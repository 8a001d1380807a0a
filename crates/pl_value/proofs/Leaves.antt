-- Operands that stand where the expression names them.
use Rattle.std.proofs.Common.{◌≡◌, refl, sym, ap, ◌∙◌, rules, arith, Result, subst}
use Rattle.pl_base.specs.declared.value.Value.{Value}
use Rattle.pl_base.specs.declared.operator.Operator.{Operator}
use Rattle.pl_calc.specs.Operators.{binary_value}
use Rattle.pl_resolved.specs.declared.expression.RExpr.{the_lemmas}
use Rattle.pl_resolved.specs.declared.expression.RPair.{RPair, out-RPair}
use Rattle.pl_value.specs.declared.operand.Unsettled.{Unsettled}
use Rattle.pl_value.specs.Frames.{Frame}
use Rattle.pl_value.specs.Meaning.{Calls, Sub, value, pair, two, left}
use Rattle.pl_value.specs.Reading.{Reading, got, then_read, settled}
use Rattle.pl_value.specs.Answers.{Reads}
use Rattle.pl_value.specs.Steps.{goes, then_same}

two_is : {W : Type 0} (calls : Calls W) (sub : Sub W) (op : Operator) (ps : RPair) (frame : Frame) (w : W)
    → two op (pair calls sub ps) frame w ≡ then_read (value calls sub (out-RPair ps).first frame w) (λ x w. then_read (value calls sub (out-RPair ps).second frame w) (λ y w. settled (binary_value op x y) w))
two_is calls sub op ps frame w = first_of (search (rules, the_lemmas), grind (arith, the_lemmas))

pub two_leaves : {W : Type 0} (calls : Calls W) (sub : Sub W) (op : Operator) (ps : RPair) (x y : Value) (frame : Frame) (w : W) (r : Result Value Unsettled)
    → value calls sub (out-RPair ps).first frame w ≡ got x w → value calls sub (out-RPair ps).second frame w ≡ got y w
    → Reads {A = Value} (settled (binary_value op x y) w) r w → Reads {A = Value} (two op (pair calls sub ps) frame w) r w
two_leaves calls sub op ps x y frame w r is-x is-y reads =
    goes {A = Value} {B = Value} _ _ (λ x w. then_read (value calls sub (out-RPair ps).second frame w) (λ y w. settled (binary_value op x y) w)) x w r w (two_is calls sub op ps frame w) is-x
    (goes {A = Value} {B = Value} _ _ (λ y w. settled (binary_value op x y) w) y w r w refl is-y reads)

pub two_left : {W : Type 0} (calls : Calls W) (sub : Sub W) (op : Operator) (ps : RPair) (y : Value) (frame : Frame) (w new : W) (r : Result Value Unsettled)
    → ((w : W) → value calls sub (out-RPair ps).second frame w ≡ got y w)
    → Reads {A = Value} (left op (value calls sub (out-RPair ps).first) y frame w) r new → Reads {A = Value} (two op (pair calls sub ps) frame w) r new
two_left {W} calls sub op ps y frame w new r is-y reads =
    subst (λ (q : Reading W Value). Reads {A = Value} q r new)
    (sym (two_is calls sub op ps frame w ∙ then_same (value calls sub (out-RPair ps).first frame w) _ _ (λ x w. ap (λ (q : Reading W Value). then_read q (λ y w. settled (binary_value op x y) w)) (is-y w))))
    reads
