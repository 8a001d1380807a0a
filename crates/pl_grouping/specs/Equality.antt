-- Trees that are equal, as a truth that can be computed: the same node over the same parts.
use Rattle.std.specs.Prelude.{◌==◌, Bool, true, false, ◌&&◌, List, [], ◌∷◌, Option, Some, None}
use Rattle.std.specs.Prelude.{bytes_eq, map, option_map}
use Rattle.pl_resolved.specs.Layers.{ExprLayer, ArmLayer, CaseLayer, ChainLayer, PairLayer, StepLayer}
use Rattle.pl_resolved.specs.declared.expression.RArm.{RArm, out-RArm}
use Rattle.pl_resolved.specs.declared.expression.RCase.{RCase, out-RCase}
use Rattle.pl_resolved.specs.declared.expression.RChain.{RChain, out-RChain}
use Rattle.pl_resolved.specs.declared.expression.RExpr.{RExpr, out-RExpr, fold-RExpr}
use Rattle.pl_resolved.specs.declared.expression.RExpr.TheOpen as l
use Rattle.pl_resolved.specs.declared.expression.RPair.{RPair, out-RPair}
use Rattle.pl_resolved.specs.declared.expression.RStep.{RStep, out-RStep}
use Rattle.pl_resolved.specs.declared.query.RAggregate.{RAggregate}
use Rattle.pl_grouping.specs.Words.{same_type, same_types, same_value, same_operator}
use Rattle.pl_grouping.specs.Words.{same_combination, same_kind}

-- whether a tree of a kind is the one that was folded
abbrev pub Is : Type 0 → Type 0
Is A = A → Bool

-- one for one
abbrev pub all_same : {A : Type 0} → List (Is A) → List A → Bool
all_same [] [] = true
all_same [] (x ∷ xs) = false
all_same (is ∷ more) [] = false
all_same (is ∷ more) (x ∷ xs) = is x && all_same more xs

abbrev pub same_if_any : {A : Type 0} → Option (Is A) → Option A → Bool
same_if_any None None = true
same_if_any (Some is) (Some x) = is x
same_if_any part x = false

-- over what parts are
abbrev pub Over : (Type 0 → Type 0 → Type 0 → Type 0 → Type 0 → Type 0 → Type 0) → Type 0
Over F = F (Is RExpr) (Is RArm) (Is RCase) (Is RChain) (Is RPair) (Is RStep)

-- over trees
abbrev pub OverTrees : (Type 0 → Type 0 → Type 0 → Type 0 → Type 0 → Type 0 → Type 0) → Type 0
OverTrees F = F RExpr RArm RCase RChain RPair RStep

abbrev pub same_layer : Over ExprLayer → OverTrees ExprLayer → Bool
same_layer (l.Constant v) (l.Constant w) = same_value v w
same_layer (l.Place row column) (l.Place row' column') = row == row' && column == column'
same_layer (l.Cast is types) (l.Cast x types') = same_types types types' && is x
same_layer (l.Unary op n is) (l.Unary op' n' x) = same_operator op op' && (n == n' && is x)
same_layer (l.Binary op is) (l.Binary op' pair) = same_operator op op' && is pair
same_layer (l.Chain is) (l.Chain chain) = is chain
same_layer (l.And parts) (l.And list) = all_same parts list
same_layer (l.Or parts) (l.Or list) = all_same parts list
same_layer (l.Case is) (l.Case x) = is x
same_layer (l.Coalesce parts to) (l.Coalesce list to') = same_type to to' && all_same parts list
same_layer (l.Combined by parts) (l.Combined by' list) =
    same_combination by by' && all_same parts list
same_layer (l.Row parts types) (l.Row list types') = same_types types types' && all_same parts list
same_layer (l.Call name parts) (l.Call name' list) = bytes_eq name name' && all_same parts list
same_layer (l.Scalar query) (l.Scalar query') = query == query'
same_layer (l.Exists query) (l.Exists query') = query == query'
same_layer (l.InQuery is query to) (l.InQuery x query' to') =
    query == query' && (same_type to to' && is x)
same_layer layer other = false

abbrev pub expr_step : Over ExprLayer → Is RExpr
expr_step layer x = same_layer layer (out-RExpr x)

abbrev pub arm_step : Over ArmLayer → Is RArm
arm_step layer x = layer.when (out-RArm x).when && layer.«then» (out-RArm x).«then»

abbrev pub case_step : Over CaseLayer → Is RCase
case_step layer x =
    same_type layer.to (out-RCase x).to
    && (same_if_any layer.operand (out-RCase x).operand
    && (all_same layer.arms (out-RCase x).arms
    && same_if_any layer.otherwise (out-RCase x).otherwise))

abbrev pub chain_step : Over ChainLayer → Is RChain
chain_step layer x = layer.first (out-RChain x).first && all_same layer.steps (out-RChain x).steps

abbrev pub pair_step : Over PairLayer → Is RPair
pair_step layer x = layer.first (out-RPair x).first && layer.second (out-RPair x).second

abbrev pub step_step : Over StepLayer → Is RStep
step_step layer x =
    same_operator layer.operator (out-RStep x).operator && layer.operand (out-RStep x).operand

-- the trees are equal
unfoldable pub same : RExpr → RExpr → Bool
same = fold-RExpr (Is RExpr) (Is RArm) (Is RCase) (Is RChain) (Is RPair) (Is RStep)
    expr_step arm_step case_step chain_step pair_step step_step

-- ---- parts, as the code comes to them

abbrev pub same_pair : RPair → Is RPair
same_pair p = pair_step (record {
  first = same (out-RPair p).first;
  second = same (out-RPair p).second;
})

abbrev pub same_step : RStep → Is RStep
same_step s = step_step (record {
  operator = (out-RStep s).operator;
  operand = same (out-RStep s).operand;
})

abbrev pub same_arm : RArm → Is RArm
same_arm a = arm_step (record { when = same (out-RArm a).when; «then» = same (out-RArm a).«then» })

abbrev pub same_chain : RChain → Is RChain
same_chain c = chain_step (record {
  first = same (out-RChain c).first;
  steps = map same_step (out-RChain c).steps;
})

abbrev pub same_case : RCase → Is RCase
same_case c = case_step (record {
  operand = option_map same (out-RCase c).operand;
  arms = map same_arm (out-RCase c).arms;
  otherwise = option_map same (out-RCase c).otherwise;
  to = (out-RCase c).to;
})

-- one kind over equal arguments
unfoldable pub same_aggregate : RAggregate → RAggregate → Bool
same_aggregate a b =
    same_kind a.aggregate b.aggregate && all_same (map same a.arguments) b.arguments
