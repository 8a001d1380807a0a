-- Operators: PostgreSQL manual, "Operator Type Resolution", "Comparison Functions and Operators",
-- "Logical Operators", "Pattern Matching".
use Rattle.std.specs.Prelude.{ℕ, zero, ◌+◌, List, [], ◌∷◌, ◌++◌, Result, Ok, Bool}
use Rattle.std.specs.Prelude.{if◌then◌else◌}
use Rattle.pl_base.specs.declared.operator.Comparison.{Comparison}
use Rattle.pl_base.specs.declared.operator.Comparison.TheVariants.{LessOrEqual}
use Rattle.pl_base.specs.declared.operator.Operator.{Operator}
use Rattle.pl_base.specs.declared.operator.Operator.TheVariants.{Plus, Minus, Concatenate, Like, Not}
use Rattle.pl_base.specs.declared.operator.Operator.TheVariants.{Compare, Distinct, NotDistinct}
use Rattle.pl_base.specs.declared.operator.Operator.TheVariants.{Is, IsNot}
use Rattle.pl_base.specs.declared.operator.Test.{Test}
use Rattle.pl_base.specs.declared.operator.Test.TheVariants.{Null}
use Rattle.pl_base.specs.declared.state.State.{State}
use Rattle.pl_base.specs.declared.types.Ty.{Ty}
use Rattle.pl_base.specs.declared.types.Ty.TheVariants.{Unknown}
use Rattle.pl_calc.specs.Types.{and_then, nullif_type, operator_type}
use Rattle.pl_resolved.specs.declared.expression.Combination.TheVariants.{Between, NullIf}
use Rattle.pl_resolved.specs.declared.expression.RChain.{roll-RChain}
use Rattle.pl_resolved.specs.declared.expression.RExpr.{RExpr}
use Rattle.pl_resolved.specs.declared.expression.RExpr.TheVariants.{Binary, Chain, Combined, Unary}
use Rattle.pl_resolved.specs.declared.expression.RPair.{RPair, roll-RPair}
use Rattle.pl_resolved.specs.declared.expression.RStep.{RStep, roll-RStep}
use Rattle.pl_tree.specs.declared.tree.Sign.{Sign}
use Rattle.pl_tree.specs.declared.tree.Sign.TheVariants as sign
use Rattle.pl_typing.specs.declared.chain.Run.{Run}
use Rattle.pl_typing.specs.declared.typed.Typed.{Typed}
use Rattle.pl_typing.specs.Headings.{null_if_heading}
use Rattle.pl_typing.specs.Resolved.{Resolved, ◌>>=◌}
use Rattle.pl_typing.specs.Typing.{typed, headed, truth_of, coerced, truth, settled, as_text_type}

-- ---- operators from the left

-- the type in which the operator takes an operand beside another
abbrev pub taken : Operator → Ty → Ty → Ty
taken Concatenate ty other = as_text_type ty
taken Like ty other = as_text_type ty
taken op ty other = settled ty other

abbrev pub run_of : Typed → Run
run_of x = record { first = x.tree; steps = []; ty = x.ty }

abbrev pub step_of : Operator → RExpr → RStep
step_of op operand = roll-RStep (record { operator = op; operand = operand })

unfoldable pub extended : Operator → Run → Typed → Ty → Run
extended op run y ty = record {
  first = coerced (taken op run.ty y.ty) (typed run.first run.ty);
  steps = run.steps ++ step_of op (coerced (taken op y.ty run.ty) y) ∷ [];
  ty = ty;
}

unfoldable pub stepped : Operator → Run → Typed → Resolved Run
stepped op run y = operator_type op run.ty y.ty >>= (λ ty. Ok (extended op run y ty))

unfoldable pub ended : Run → Typed
ended run = typed (Chain (roll-RChain (record { first = run.first; steps = run.steps }))) run.ty

-- ---- two operands

abbrev pub pair : Operator → Typed → Typed → RPair
pair op x y = roll-RPair (record {
  first = coerced (taken op x.ty y.ty) x;
  second = coerced (taken op y.ty x.ty) y;
})

unfoldable pub paired : Operator → Typed → Typed → Resolved Typed
paired op x y = operator_type op x.ty y.ty >>= (λ ty. Ok (typed (Binary op (pair op x y)) ty))

unfoldable pub compared : Comparison → Typed → Typed → Resolved Typed
compared op x y = paired (Compare op) x y

abbrev pub distinct_operator : Bool → Operator
distinct_operator is_negated = if is_negated then NotDistinct else Distinct

unfoldable pub distinct : Bool → Typed → Typed → Resolved Typed
distinct is_negated x y = paired (distinct_operator is_negated) x y

-- ---- NOT

abbrev pub opposite : ℕ → RExpr → Typed
opposite n tree = truth_of (Unary Not n tree)

-- NOT LIKE, NOT BETWEEN and NOT IN are the opposite of what stands without NOT
abbrev pub turned : Bool → Typed → Typed
turned is_negated x = if is_negated then opposite 1 x.tree else x

unfoldable pub like : Bool → Typed → Typed → Resolved Typed
like is_negated x y = paired Like x y >>= (λ plain. Ok (turned is_negated plain))

-- NOT, n times
unfoldable pub negated : ℕ → Typed → Resolved Typed
negated n x = truth x >>= (λ tree. Ok (opposite n tree))

-- ---- IS

abbrev pub asking : Bool → Test → Operator
asking is_negated test = if is_negated then IsNot test else Is test

-- a null is asked for of any value, a truth of a condition
abbrev pub asked_of : Typed → Test → Resolved RExpr
asked_of x Null = Ok x.tree
asked_of x test = truth x

unfoldable pub asked : Bool → Typed → Test → Resolved Typed
asked is_negated x test =
    asked_of x test >>= (λ tree. Ok (truth_of (Unary (asking is_negated test) 1 tree)))

-- ---- signs

abbrev pub minuses : List Sign → ℕ
minuses [] = 0
minuses (sign.Minus ∷ signs) = 1 + minuses signs
minuses (sign.Plus ∷ signs) = minuses signs

-- a plus says no more than that there is a number
abbrev pub with_signs : ℕ → RExpr → RExpr
with_signs zero tree = Unary Plus 1 tree
with_signs n tree = Unary Minus n tree

unfoldable pub signed : List Sign → Typed → Resolved Typed
signed signs x =
    operator_type Plus x.ty x.ty >>= (λ ty. Ok (typed (with_signs (minuses signs) x.tree) ty))

-- ---- BETWEEN

-- an unknown operand takes the first known type of the bounds
abbrev pub between_type : Ty → Ty → Ty → Ty
between_type Unknown Unknown high = as_text_type high
between_type Unknown low high = low
between_type ty low high = ty

-- the operand is compared with both
abbrev pub bounds : Ty → Ty → Ty → Result Ty State
bounds ty low high =
    and_then (operator_type (Compare LessOrEqual) low ty)
    (operator_type (Compare LessOrEqual) ty high)

abbrev pub lies_between : Ty → Typed → Typed → Typed → Typed
lies_between ty x low high =
    truth_of (Combined Between (coerced ty x
    ∷ coerced (settled low.ty ty) low ∷ coerced (settled high.ty ty) high ∷ []))

unfoldable pub lies_at : Ty → Typed → Typed → Typed → Resolved Typed
lies_at ty x low high = bounds ty low.ty high.ty >>= (λ _. Ok (lies_between ty x low high))

unfoldable pub between : Bool → Typed → Typed → Typed → Resolved Typed
between is_negated x low high =
    lies_at (between_type x.ty low.ty high.ty) x low high >>= (λ plain.
    Ok (turned is_negated plain))

-- ---- NULLIF

abbrev pub null_where_equal : Ty → Typed → Typed → Typed
null_where_equal ty x y =
    headed (Combined NullIf (coerced ty x ∷ coerced (settled y.ty x.ty) y ∷ [])) ty null_if_heading

unfoldable pub null_if : Typed → Typed → Resolved Typed
null_if x y = nullif_type x.ty y.ty >>= (λ ty. Ok (null_where_equal ty x y))
