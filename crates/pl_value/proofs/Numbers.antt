-- Operators on numbers that are read without a value.
use Rattle.std.proofs.Common.{◌≡◌, List, refl, sym, subst, ap, ◌∙◌, rules, arith, Bool, true, false, Option, Some, None, Ok, map}
use Rattle.std.specs.Prelude.{ℤ, if◌then◌else◌, option_map, IfSome}
use Rattle.std.specs.Ordering.{int_cmp}
use Rattle.std.specs.declared.cmp.Ordering.{Ordering}
use Rattle.pl_base.specs.declared.operator.Arithmetic.{Arithmetic}
use Rattle.pl_base.specs.declared.operator.Comparison.{Comparison}
use Rattle.pl_base.specs.declared.operator.Operator.{Operator}
use Rattle.pl_base.specs.declared.operator.Operator.TheVariants as operator
use Rattle.pl_base.specs.declared.value.Value.{Value}
use Rattle.pl_base.specs.declared.value.Value.TheVariants.{Bool as Truth, Int, Big}
use Rattle.pl_calc.specs.Answer.{Answer}
use Rattle.pl_calc.specs.Comparison.{answered, holds, order_of}
use Rattle.pl_calc.specs.Numbers.{arithmetic, bigint, integer, then_as}
use Rattle.pl_calc.specs.Operators.{binary_value}
use Rattle.pl_resolved.specs.declared.expression.RExpr.{RExpr, the_lemmas}
use Rattle.pl_resolved.specs.declared.expression.RExpr.TheVariants as e
use Rattle.pl_resolved.specs.declared.expression.RChain.{RChain, out-RChain}
use Rattle.pl_resolved.specs.declared.expression.RPair.{RPair, out-RPair}
use Rattle.pl_resolved.specs.declared.expression.RStep.{RStep, out-RStep}
use Rattle.pl_value.specs.Frames.{Frame}
use Rattle.pl_value.specs.Meaning.{Calls, Sub, value, chain, pair, step, two, step_read, steps_read}
use Rattle.pl_value.specs.Number.{typed_value}
use Rattle.pl_value.specs.Reading.{Reading, got, then_read, settled}
use Rattle.pl_value.proofs.Leaves.{two_leaves}

-- the value of a chain, whatever makes the calls and runs the queries inside
abbrev pub IsOfChain : (C : Type 0) → RChain → Frame → Value → Type 0
IsOfChain C c frame v = (calls : Calls C) (sub : Sub C) (caller : C) → chain calls sub c frame caller ≡ got v caller

-- what is said of the value of a number that was unpacked, or packed
pub of_packed : {A B : Type 0} (P : B → Type 0) (f : A → B) (r : Option A) (o : Option B) → option_map f r ≡ o → IfSome o P → IfSome r (λ n. P (f n))
of_packed {A} {B} P f None o is all = tt
of_packed {A} {B} P f (Some n) o is all = subst (λ (o : Option B). IfSome o P) (sym is) all

pub to_packed : {A B : Type 0} (P : B → Type 0) (f : A → B) (r : Option A) (o : Option B) → o ≡ option_map f r → IfSome r (λ n. P (f n)) → IfSome o P
to_packed {A} {B} P f None o is all = subst (λ (o : Option B). IfSome o P) (sym is) tt
to_packed {A} {B} P f (Some n) o is all = subst (λ (o : Option B). IfSome o P) (sym is) all

pub integers_give : (op : Arithmetic) (x y : Bool) (a b z : ℤ) → true ≡ (if x then y else false) → then_as integer (arithmetic op a b) ≡ Ok (Int z)
    → binary_value (operator.Arithmetic op) (typed_value x a) (typed_value y b) ≡ Ok (Int z)
integers_give op true true a b z both gives = gives
integers_give op true false a b z both gives = absurd (let no : true ≡ false = both in cc)
integers_give op false y a b z both gives = absurd (let no : true ≡ false = both in cc)

pub bigints_give : (op : Arithmetic) (x y : Bool) (a b z : ℤ) → false ≡ (if x then y else false) → then_as bigint (arithmetic op a b) ≡ Ok (Big z)
    → binary_value (operator.Arithmetic op) (typed_value x a) (typed_value y b) ≡ Ok (Big z)
bigints_give op true true a b z both gives = absurd (let no : false ≡ true = both in cc)
bigints_give op true false a b z both gives = gives
bigints_give op false true a b z both gives = gives
bigints_give op false false a b z both gives = gives

pub ordered : (x y : Bool) (a b : ℤ) → order_of (typed_value x a) (typed_value y b) ≡ Some (int_cmp a b)
ordered true true a b = refl
ordered true false a b = refl
ordered false true a b = refl
ordered false false a b = refl

compared_typed : (op : Comparison) (x y : Bool) (a b : ℤ)
    → binary_value (operator.Compare op) (typed_value x a) (typed_value y b) ≡ answered (option_map (holds op) (order_of (typed_value x a) (typed_value y b)))
compared_typed op true true a b = refl
compared_typed op true false a b = refl
compared_typed op false true a b = refl
compared_typed op false false a b = refl

pub numbers_compare : (op : Comparison) (x y : Bool) (a b : ℤ) (order : Ordering) (r : Bool) → order_of (typed_value x a) (typed_value y b) ≡ Some order → r ≡ holds op order
    → binary_value (operator.Compare op) (typed_value x a) (typed_value y b) ≡ Ok (Truth r)
numbers_compare op x y a b order r is-order is =
    compared_typed op x y a b
    ∙ (ap (λ (o : Option Ordering). answered (option_map (holds op) o)) is-order ∙ ap (λ (r : Bool). Ok (Truth r)) (sym is))

value_chain : {W : Type 0} (calls : Calls W) (sub : Sub W) (c : RChain) (frame : Frame) (w : W)
    → value calls sub (e.Chain c) frame w ≡ chain calls sub c frame w
value_chain calls sub c frame w = first_of (search (rules, the_lemmas), grind (arith, the_lemmas))

pub chain_value : {W : Type 0} (calls : Calls W) (sub : Sub W) (x : RExpr) (c c' : RChain) (frame : Frame) (w : W) → x ≡ e.Chain c → c' ≡ c
    → value calls sub x frame w ≡ chain calls sub c' frame w
chain_value calls sub x c c' frame w is same =
    ap (λ (x : RExpr). value calls sub x frame w) is ∙ (value_chain calls sub c frame w ∙ ap (λ (c : RChain). chain calls sub c frame w) (sym same))

step_is : {W : Type 0} (calls : Calls W) (sub : Sub W) (s : RStep) (x : Value) (frame : Frame) (w : W)
    → step_read (step calls sub s) x frame w ≡ then_read (value calls sub (out-RStep s).operand frame w) (λ y w. settled (binary_value (out-RStep s).operator x y) w)
step_is calls sub s x frame w = first_of (search (rules, the_lemmas), grind (arith, the_lemmas))

pub step_gives : {W : Type 0} (calls : Calls W) (sub : Sub W) (s : RStep) (op : Operator) (x y v : Value) (frame : Frame) (w : W)
    → (out-RStep s).operator ≡ op → value calls sub (out-RStep s).operand frame w ≡ got y w → binary_value op x y ≡ Ok v
    → step_read (step calls sub s) x frame w ≡ got v w
step_gives calls sub s op x y v frame w is reads gives =
    step_is calls sub s x frame w
    ∙ (ap (λ (q : Reading _ Value). then_read q (λ y w. settled (binary_value (out-RStep s).operator x y) w)) reads
    ∙ (ap (λ (op : Operator). settled (binary_value op x y) w) is ∙ ap (λ (a : Answer). settled a w) gives))

pub two_gives : {W : Type 0} (calls : Calls W) (sub : Sub W) (ps : RPair) (op op' : Operator) (x y v : Value) (frame : Frame) (w : W)
    → op ≡ op' → value calls sub (out-RPair ps).first frame w ≡ got x w → value calls sub (out-RPair ps).second frame w ≡ got y w → binary_value op' x y ≡ Ok v
    → two op (pair calls sub ps) frame w ≡ got v w
two_gives calls sub ps op op' x y v frame w is is-x is-y gives =
    two_leaves calls sub op ps x y frame w (Ok v) is-x is-y
    (ap (λ (op : Operator). settled (binary_value op x y) w) is ∙ ap (λ (a : Answer). settled a w) gives)

chain_is : {W : Type 0} (calls : Calls W) (sub : Sub W) (c : RChain) (frame : Frame) (w : W)
    → chain calls sub c frame w ≡ then_read (value calls sub (out-RChain c).first frame w) (λ v w. steps_read (map (step calls sub) (out-RChain c).steps) v frame w)
chain_is calls sub c frame w = first_of (search (rules, the_lemmas), grind (arith, the_lemmas))

pub chain_gives : {W : Type 0} (calls : Calls W) (sub : Sub W) (c : RChain) (steps : List RStep) (x v : Value) (frame : Frame) (w : W)
    → steps ≡ (out-RChain c).steps → value calls sub (out-RChain c).first frame w ≡ got x w → steps_read (map (step calls sub) steps) x frame w ≡ got v w
    → chain calls sub c frame w ≡ got v w
chain_gives calls sub c steps x v frame w same is-x gives =
    chain_is calls sub c frame w
    ∙ (ap (λ (q : Reading _ Value). then_read q (λ v w. steps_read (map (step calls sub) (out-RChain c).steps) v frame w)) is-x
    ∙ (ap (λ (ss : List RStep). steps_read (map (step calls sub) ss) x frame w) (sym same) ∙ gives))
