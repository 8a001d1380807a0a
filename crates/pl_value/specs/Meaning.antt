-- The values of expressions: PostgreSQL manual, "Value Expressions". Parts are read from left to
-- right.
use Rattle.std.specs.Prelude.{ℕ, Bool, true, false, not, if◌then◌else◌, List, [], ◌∷◌, ◌++◌, map, Option}
use Rattle.std.specs.Prelude.{Some, None, Result, Ok, Err}
use Rattle.pl_base.specs.States.{CARDINALITY_VIOLATION}
use Rattle.pl_base.specs.declared.state.State.{State}
use Rattle.pl_base.specs.declared.operator.Operator.{Operator}
use Rattle.pl_base.specs.declared.types.Ty.{Ty}
use Rattle.pl_base.specs.declared.value.Value.{Value}
use Rattle.pl_base.specs.declared.value.Value.TheVariants.{Null, Bool as Truth}
use Rattle.pl_calc.specs.Answer.{Answer}
use Rattle.pl_calc.specs.Casts.{cast_to}
use Rattle.pl_calc.specs.Logic.{and_of, or_of, is_null, truth_of, truth_value}
use Rattle.pl_calc.specs.Operators.{binary_value}
use Rattle.pl_resolved.specs.declared.expression.RArm.{RArm, fold-RArm}
use Rattle.pl_resolved.specs.declared.expression.RCase.{RCase, fold-RCase}
use Rattle.pl_resolved.specs.declared.expression.RChain.{RChain, fold-RChain}
use Rattle.pl_resolved.specs.declared.expression.RExpr.{RExpr, fold-RExpr}
use Rattle.pl_resolved.specs.declared.expression.RExpr.TheOpen as e
use Rattle.pl_resolved.specs.declared.expression.RExpr.TheOpen.{RArm-F, RCase-F, RChain-F, RExpr-F}
use Rattle.pl_resolved.specs.declared.expression.RExpr.TheOpen.{RPair-F, RStep-F}
use Rattle.pl_resolved.specs.declared.expression.RPair.{RPair, fold-RPair}
use Rattle.pl_resolved.specs.declared.expression.RStep.{RStep, fold-RStep}
use Rattle.pl_value.specs.Combined.{cast_through, combined, equals, is_in, is_true, repeated, row_value}
use Rattle.pl_value.specs.Frames.{Row, Frame, cell, first_or_null, or_null}
use Rattle.pl_value.specs.Reading.{Reading, got, fails, then_read, settled}

-- what a call of a routine gives, and the world behind it
abbrev pub Calls : Type 0 → Type 0
Calls W = List ℕ → List Value → W → Reading W Value

-- the rows of a query, by its number, inside the rows that stand
abbrev pub Sub : Type 0 → Type 0
Sub W = ℕ → Frame → W → Reading W (List Row)

-- what an expression means: its value, over the rows that stand
abbrev pub Part : Type 0 → Type 0
Part W = Frame → W → Reading W Value

-- what two operands, or WHEN and THEN, mean
abbrev pub Pair : Type 0 → Type 0
Pair W = Part W × Part W

-- what an operator with its second operand means
abbrev pub Step : Type 0 → Type 0
Step W = Operator × Part W

-- a truth passes only if it is true
abbrev pub is_so : Option Bool → Bool
is_so (Some b) = b
is_so None = false

abbrev pub so : Result (Option Bool) State → Result Bool State
so (Ok t) = Ok (is_so t)
so (Err state) = Err state

abbrev pub true_of : Answer → Result Bool State
true_of (Ok v) = Ok (is_true v)
true_of (Err state) = Err state

-- a condition passes only if it is true
abbrev pub passed : Value → Result Bool State
passed v = so (truth_of v)

-- a WHEN is true, or equals the operand of CASE
abbrev pub met : Option Value → Value → Result Bool State
met None v = passed v
met (Some x) v = true_of (equals x v)

-- a truth is the one that fixes the answer: false in AND, true in OR
abbrev pub is_fixed : Bool → Option Bool → Bool
is_fixed true (Some t) = t
is_fixed false (Some t) = not t
is_fixed b None = false

abbrev pub joint : Bool → Option Bool → Option Bool → Option Bool
joint true = or_of
joint false = and_of

-- there is a row
abbrev pub is_some : List Row → Bool
is_some [] = false
is_some (row ∷ rows) = true

module _ {W : Type 0} where
  -- the values of the parts, behind those that were read
  abbrev pub values : List (Part W) → List Value → Frame → W → Reading W (List Value)
  values [] done frame w = got done w
  values (p ∷ ps) done frame w = then_read (p frame w) (λ v w. values ps (done ++ v ∷ []) frame w)

  -- the truth of a condition; None where it is unknown
  abbrev pub truth : Part W → Frame → W → Reading W (Option Bool)
  truth p frame w = then_read (p frame w) (λ v w. settled (truth_of v) w)

  abbrev pub passes : Part W → Frame → W → Reading W Bool
  passes p frame w = then_read (p frame w) (λ v w. settled (passed v) w)

  -- truths are joined until the answer is fixed
  abbrev pub joined : Bool → List (Part W) → Option Bool → Frame → W → Reading W (Option Bool)
  joined b [] so_far frame w = got so_far w
  joined b (p ∷ ps) so_far frame w =
      then_read (truth p frame w) (λ t w.
      if is_fixed b (joint b so_far t) then got (joint b so_far t) w
      else joined b ps (joint b so_far t) frame w)

  -- an operand of an operator, behind the value on its left
  abbrev pub step_read : Step W → Value → Frame → W → Reading W Value
  step_read s so_far frame w =
      then_read (s.1 frame w) (λ y w. settled (binary_value s.0 so_far y) w)

  -- operators of one level, from the left
  abbrev pub steps_read : List (Step W) → Value → Frame → W → Reading W Value
  steps_read [] so_far frame w = got so_far w
  steps_read (s ∷ steps) so_far frame w =
      then_read (step_read s so_far frame w) (λ v w. steps_read steps v frame w)

  abbrev pub chained : Part W → List (Step W) → Part W
  chained first steps frame w = then_read (first frame w) (λ v w. steps_read steps v frame w)

  -- an operator on two operands
  abbrev pub two : Operator → Pair W → Part W
  two op ps frame w =
      then_read (ps.0 frame w) (λ x w.
      then_read (ps.1 frame w) (λ y w. settled (binary_value op x y) w))

  -- an operator on an operand and a value
  abbrev pub left : Operator → Part W → Value → Part W
  left op p y frame w = then_read (p frame w) (λ x w. settled (binary_value op x y) w)

  -- the value of one operand, and what is made of it
  abbrev pub one : (Value → Answer) → Part W → Part W
  one make p frame w = then_read (p frame w) (λ v w. settled (make v) w)

  -- COALESCE: the first value that isn't null
  abbrev pub coalesced : Ty → List (Part W) → Part W
  coalesced to [] frame w = got Null w
  coalesced to (p ∷ ps) frame w =
      then_read (p frame w) (λ v w.
      if is_null v then coalesced to ps frame w else settled (cast_to v to) w)

  abbrev pub holds : Option Value → Part W → Frame → W → Reading W Bool
  holds x p frame w = then_read (p frame w) (λ v w. settled (met x v) w)

  -- an expression that is left out is null
  abbrev pub or_absent : Option (Part W) → Part W
  or_absent (Some p) frame w = p frame w
  or_absent None frame w = got Null w

  -- the value of the first arm whose WHEN holds, or of ELSE
  abbrev pub chosen : Option Value → List (Pair W) → Option (Part W) → Part W
  chosen x [] otherwise frame w = or_absent otherwise frame w
  chosen x (a ∷ arms) otherwise frame w =
      then_read (holds x a.0 frame w) (λ b w.
      if b then a.1 frame w else chosen x arms otherwise frame w)

  abbrev pub if_there : Option (Part W) → Frame → W → Reading W (Option Value)
  if_there None frame w = got None w
  if_there (Some p) frame w = then_read (p frame w) (λ v w. got (Some v) w)

  -- CASE
  abbrev pub cased : Option (Part W) → List (Pair W) → Option (Part W) → Ty → Part W
  cased operand arms otherwise to frame w =
      then_read (if_there operand frame w) (λ x w.
      one (λ v. cast_to v to) (chosen x arms otherwise) frame w)

  -- the values of all operands, and what is made of them
  abbrev pub all_of : (List Value → W → Reading W Value) → List (Part W) → Part W
  all_of make ps frame w = then_read (values ps [] frame w) (λ vs w. make vs w)

  -- the one value of a query inside
  abbrev pub only : List Row → W → Reading W Value
  only [] w = got Null w
  only (row ∷ []) w = got (first_or_null row) w
  only (row ∷ more ∷ rows) w = fails CARDINALITY_VIOLATION w

  abbrev pub scalar : Sub W → ℕ → Part W
  scalar sub query frame w = then_read (sub query frame w) (λ rows w. only rows w)

  -- whether a query inside has a row
  abbrev pub has_row : Sub W → ℕ → Frame → W → Reading W Bool
  has_row sub query frame w = then_read (sub query frame w) (λ rows w. got (is_some rows) w)

  -- EXISTS
  abbrev pub exists : Sub W → ℕ → Part W
  exists sub query frame w = then_read (has_row sub query frame w) (λ b w. got (Truth b) w)

  -- IN with a query
  abbrev pub in_query : Sub W → Part W → ℕ → Ty → Part W
  in_query sub p query to frame w =
      then_read (p frame w) (λ x w.
      then_read (sub query frame w) (λ rows w. settled (is_in to x (map first_or_null rows)) w))

  -- AND, and OR where true is what fixes it
  abbrev pub junction : Bool → List (Part W) → Part W
  junction b ps frame w =
      then_read (joined b ps (Some (not b)) frame w) (λ t w. got (truth_value t) w)

  -- one level of an expression, over what its parts mean
  module _ (calls : Calls W) (sub : Sub W) where
    abbrev pub value_step : RExpr-F (Part W) (Pair W) (Part W) (Part W) (Pair W) (Step W) → Part W
    value_step (e.Constant v) frame w = got v w
    value_step (e.Place row column) frame w = got (or_null (cell frame row column)) w
    value_step (e.Cast p types) frame w = one (cast_through types) p frame w
    value_step (e.Unary op n p) frame w = one (repeated op n) p frame w
    value_step (e.Binary op ps) frame w = two op ps frame w
    value_step (e.Chain p) frame w = p frame w
    value_step (e.And ps) frame w = junction false ps frame w
    value_step (e.Or ps) frame w = junction true ps frame w
    value_step (e.Case p) frame w = p frame w
    value_step (e.Coalesce ps to) frame w = coalesced to ps frame w
    value_step (e.Combined c ps) frame w = all_of (λ vs w. settled (combined c vs) w) ps frame w
    value_step (e.Row ps types) frame w = all_of (λ vs w. got (row_value types vs) w) ps frame w
    value_step (e.Call routine ps) frame w = all_of (calls routine) ps frame w
    value_step (e.Scalar query) frame w = scalar sub query frame w
    value_step (e.Exists query) frame w = exists sub query frame w
    value_step (e.InQuery p query to) frame w = in_query sub p query to frame w

  abbrev pub arm_step : RArm-F (Part W) (Pair W) (Part W) (Part W) (Pair W) (Step W) → Pair W
  arm_step a = (a.when, a.then)

  abbrev pub case_step : RCase-F (Part W) (Pair W) (Part W) (Part W) (Pair W) (Step W) → Part W
  case_step c = cased c.operand c.arms c.otherwise c.to

  abbrev pub chain_step : RChain-F (Part W) (Pair W) (Part W) (Part W) (Pair W) (Step W) → Part W
  chain_step c = chained c.first c.steps

  abbrev pub pair_step : RPair-F (Part W) (Pair W) (Part W) (Part W) (Pair W) (Step W) → Pair W
  pair_step p = (p.first, p.second)

  abbrev pub step_step : RStep-F (Part W) (Pair W) (Part W) (Part W) (Pair W) (Step W) → Step W
  step_step s = (s.operator, s.operand)

-- the value of an expression
abbrev pub value : {W : Type 0} → Calls W → Sub W → RExpr → Part W
value {W} calls sub x =
    fold-RExpr (Part W) (Pair W) (Part W) (Part W) (Pair W) (Step W)
    (value_step calls sub) arm_step case_step chain_step pair_step step_step x

-- the values of WHEN and THEN
abbrev pub arm : {W : Type 0} → Calls W → Sub W → RArm → Pair W
arm {W} calls sub x =
    fold-RArm (Part W) (Pair W) (Part W) (Part W) (Pair W) (Step W)
    (value_step calls sub) arm_step case_step chain_step pair_step step_step x

abbrev pub case : {W : Type 0} → Calls W → Sub W → RCase → Part W
case {W} calls sub x =
    fold-RCase (Part W) (Pair W) (Part W) (Part W) (Pair W) (Step W)
    (value_step calls sub) arm_step case_step chain_step pair_step step_step x

abbrev pub chain : {W : Type 0} → Calls W → Sub W → RChain → Part W
chain {W} calls sub x =
    fold-RChain (Part W) (Pair W) (Part W) (Part W) (Pair W) (Step W)
    (value_step calls sub) arm_step case_step chain_step pair_step step_step x

-- the values of two operands
abbrev pub pair : {W : Type 0} → Calls W → Sub W → RPair → Pair W
pair {W} calls sub x =
    fold-RPair (Part W) (Pair W) (Part W) (Part W) (Pair W) (Step W)
    (value_step calls sub) arm_step case_step chain_step pair_step step_step x

-- an operator and the value of its second operand
abbrev pub step : {W : Type 0} → Calls W → Sub W → RStep → Step W
step {W} calls sub x =
    fold-RStep (Part W) (Pair W) (Part W) (Part W) (Pair W) (Step W)
    (value_step calls sub) arm_step case_step chain_step pair_step step_step x
