-- CASE: PostgreSQL manual, "Conditional Expressions".
use Rattle.std.specs.Prelude.{List, [], ◌∷◌, ◌++◌, Option, Some, None, Ok}
use Rattle.pl_base.specs.declared.operator.Comparison.TheVariants.{Equal}
use Rattle.pl_base.specs.declared.operator.Operator.TheVariants.{Compare}
use Rattle.pl_base.specs.declared.types.Ty.{Ty}
use Rattle.pl_base.specs.declared.types.Ty.TheVariants.{Unknown}
use Rattle.pl_calc.specs.Types.{operator_type}
use Rattle.pl_resolved.specs.declared.expression.RArm.{RArm, roll-RArm}
use Rattle.pl_resolved.specs.declared.expression.RCase.{roll-RCase}
use Rattle.pl_resolved.specs.declared.expression.RExpr.{RExpr}
use Rattle.pl_resolved.specs.declared.expression.RExpr.TheVariants.{Case}
use Rattle.pl_typing.specs.declared.cases.Arms.{Arms}
use Rattle.pl_typing.specs.declared.typed.Typed.{Typed}
use Rattle.pl_typing.specs.Headings.{case_heading}
use Rattle.pl_typing.specs.Resolved.{Resolved, ◌>>=◌}
use Rattle.pl_typing.specs.Typing.{as_text_type, coerced, headed, truth}
use Rattle.pl_typing.specs.Unions.{united_type, united_with}

abbrev pub operand_type : Option Typed → Option Ty
operand_type None = None
operand_type (Some x) = Some (as_text_type x.ty)

abbrev pub tree_of : Option Typed → Option RExpr
tree_of None = None
tree_of (Some x) = Some x.tree

-- WHEN: a condition, or a value that is compared with the operand
abbrev pub equal_to : Ty → Typed → Resolved RExpr
equal_to ty when = operator_type (Compare Equal) ty when.ty >>= (λ _. Ok (coerced ty when))

abbrev pub tested_by : Option Ty → Typed → Resolved RExpr
tested_by None when = truth when
tested_by (Some ty) when = equal_to ty when

unfoldable pub tested : Option Ty → Typed → Resolved RExpr
tested = tested_by

-- WHEN and THEN, one after another
abbrev pub no_arms : Arms
no_arms = record { arms = []; ty = Some Unknown }

abbrev pub arm_of : RExpr → RExpr → RArm
arm_of when gives = roll-RArm (record { when = when; «then» = gives })

abbrev pub with_arm : Arms → RExpr → Typed → Arms
with_arm done when gives = record {
  arms = done.arms ++ arm_of when gives.tree ∷ [];
  ty = united_with done.ty gives.ty;
}

abbrev pub case_tree : Option RExpr → List RArm → Option RExpr → Option Ty → Resolved Typed
case_tree operand arms otherwise ty = united_type ty >>= (λ to.
    Ok (headed (Case (roll-RCase (record {
      operand = operand;
      arms = arms;
      otherwise = otherwise;
      to = to;
    }))) to case_heading))

abbrev pub cased_by : Option RExpr → Arms → Option Typed → Resolved Typed
cased_by operand done None = case_tree operand done.arms None done.ty
cased_by operand done (Some other) =
    case_tree operand done.arms (Some other.tree) (united_with done.ty other.ty)

unfoldable pub cased : Option RExpr → Arms → Option Typed → Resolved Typed
cased = cased_by
