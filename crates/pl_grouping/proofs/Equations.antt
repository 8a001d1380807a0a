-- One equation for each kind of node: what equals a node, from what equals its parts.
use Rattle.std.proofs.Common.{◌≡◌, ◌∙◌, ap, refl, ℕ, List, [], ◌∷◌, map, rules, arith}
use Rattle.std.specs.Option.{option_map}
use Rattle.pl_base.specs.declared.operator.Operator.{Operator}
use Rattle.pl_base.specs.declared.types.Ty.{Ty}
use Rattle.pl_base.specs.declared.value.Value.{Value}
use Rattle.pl_resolved.specs.declared.expression.Combination.{Combination}
use Rattle.pl_resolved.specs.declared.expression.RArm.{RArm, fold-RArm}
use Rattle.pl_resolved.specs.declared.expression.RCase.{RCase, out-RCase, fold-RCase}
use Rattle.pl_resolved.specs.declared.expression.RChain.{RChain, out-RChain, fold-RChain}
use Rattle.pl_resolved.specs.declared.expression.RExpr.{RExpr, the_lemmas}
use Rattle.pl_resolved.specs.declared.expression.RExpr.TheOpen as l
use Rattle.pl_resolved.specs.declared.expression.RExpr.TheVariants as r
use Rattle.pl_resolved.specs.declared.expression.RPair.{RPair, fold-RPair}
use Rattle.pl_resolved.specs.declared.expression.RStep.{RStep, fold-RStep}
use Rattle.pl_grouping.specs.Equality.{Is, same, expr_step, arm_step, case_step, chain_step, pair_step, step_step}
use Rattle.pl_grouping.specs.Equality.{same_arm, same_case, same_chain, same_pair, same_step}

unfoldable arm_raw : RArm → Is RArm
arm_raw = fold-RArm (Is RExpr) (Is RArm) (Is RCase) (Is RChain) (Is RPair) (Is RStep)
    expr_step arm_step case_step chain_step pair_step step_step

unfoldable case_raw : RCase → Is RCase
case_raw = fold-RCase (Is RExpr) (Is RArm) (Is RCase) (Is RChain) (Is RPair) (Is RStep)
    expr_step arm_step case_step chain_step pair_step step_step

unfoldable chain_raw : RChain → Is RChain
chain_raw = fold-RChain (Is RExpr) (Is RArm) (Is RCase) (Is RChain) (Is RPair) (Is RStep)
    expr_step arm_step case_step chain_step pair_step step_step

unfoldable pair_raw : RPair → Is RPair
pair_raw = fold-RPair (Is RExpr) (Is RArm) (Is RCase) (Is RChain) (Is RPair) (Is RStep)
    expr_step arm_step case_step chain_step pair_step step_step

unfoldable step_raw : RStep → Is RStep
step_raw = fold-RStep (Is RExpr) (Is RArm) (Is RCase) (Is RChain) (Is RPair) (Is RStep)
    expr_step arm_step case_step chain_step pair_step step_step

arm_out : (x : RArm) → arm_raw x ≡ same_arm x
unfolding arm_raw same
arm_out x = first_of (search (rules, the_lemmas), grind (arith, the_lemmas))

pair_out : (x : RPair) → pair_raw x ≡ same_pair x
unfolding pair_raw same
pair_out x = first_of (search (rules, the_lemmas), grind (arith, the_lemmas))

step_out : (x : RStep) → step_raw x ≡ same_step x
unfolding step_raw same
step_out x = first_of (search (rules, the_lemmas), grind (arith, the_lemmas))

map_arm : (xs : List RArm) → map arm_raw xs ≡ map same_arm xs
map_arm [] = refl
map_arm (x ∷ xs) = cc (arm_out x, map_arm xs)

map_step : (xs : List RStep) → map step_raw xs ≡ map same_step xs
map_step [] = refl
map_step (x ∷ xs) = cc (step_out x, map_step xs)

chain_first : (x : RChain) → chain_raw x ≡ chain_step (record { first = same (out-RChain x).first; steps = map step_raw (out-RChain x).steps })
unfolding chain_raw step_raw same
chain_first x = first_of (search (rules, the_lemmas), grind (arith, the_lemmas))

chain_out : (x : RChain) → chain_raw x ≡ same_chain x
chain_out x = chain_first x ∙ ap (λ (ss : List (Is RStep)). chain_step (record { first = same (out-RChain x).first; steps = ss })) (map_step (out-RChain x).steps)

case_first : (x : RCase) → case_raw x ≡ case_step (record { operand = option_map same (out-RCase x).operand; arms = map arm_raw (out-RCase x).arms; otherwise = option_map same (out-RCase x).otherwise; to = (out-RCase x).to })
unfolding case_raw arm_raw same
case_first x = first_of (search (rules, the_lemmas), grind (arith, the_lemmas))

case_out : (x : RCase) → case_raw x ≡ same_case x
case_out x = case_first x ∙ ap (λ (parts : List (Is RArm)). case_step (record { operand = option_map same (out-RCase x).operand; arms = parts; otherwise = option_map same (out-RCase x).otherwise; to = (out-RCase x).to })) (map_arm (out-RCase x).arms)

pub same_constant : (v : Value) → same (r.Constant v) ≡ expr_step (l.Constant v)
unfolding same
same_constant v = first_of (search (rules, the_lemmas), grind (arith, the_lemmas))

pub same_place : (row column : ℕ) → same (r.Place row column) ≡ expr_step (l.Place row column)
unfolding same
same_place row column = first_of (search (rules, the_lemmas), grind (arith, the_lemmas))

pub same_cast : (x : RExpr) (types : List Ty) → same (r.Cast x types) ≡ expr_step (l.Cast (same x) types)
unfolding same
same_cast x types = first_of (search (rules, the_lemmas), grind (arith, the_lemmas))

pub same_unary : (op : Operator) (n : ℕ) (x : RExpr) → same (r.Unary op n x) ≡ expr_step (l.Unary op n (same x))
unfolding same
same_unary op n x = first_of (search (rules, the_lemmas), grind (arith, the_lemmas))

pub same_and : (xs : List RExpr) → same (r.And xs) ≡ expr_step (l.And (map same xs))
unfolding same
same_and xs = first_of (search (rules, the_lemmas), grind (arith, the_lemmas))

pub same_or : (xs : List RExpr) → same (r.Or xs) ≡ expr_step (l.Or (map same xs))
unfolding same
same_or xs = first_of (search (rules, the_lemmas), grind (arith, the_lemmas))

pub same_coalesce : (xs : List RExpr) (to : Ty) → same (r.Coalesce xs to) ≡ expr_step (l.Coalesce (map same xs) to)
unfolding same
same_coalesce xs to = first_of (search (rules, the_lemmas), grind (arith, the_lemmas))

pub same_combined : (by : Combination) (xs : List RExpr) → same (r.Combined by xs) ≡ expr_step (l.Combined by (map same xs))
unfolding same
same_combined by xs = first_of (search (rules, the_lemmas), grind (arith, the_lemmas))

pub same_row : (xs : List RExpr) (types : List Ty) → same (r.Row xs types) ≡ expr_step (l.Row (map same xs) types)
unfolding same
same_row xs types = first_of (search (rules, the_lemmas), grind (arith, the_lemmas))

pub same_call : (name : List ℕ) (xs : List RExpr) → same (r.Call name xs) ≡ expr_step (l.Call name (map same xs))
unfolding same
same_call name xs = first_of (search (rules, the_lemmas), grind (arith, the_lemmas))

pub same_scalar : (query : ℕ) → same (r.Scalar query) ≡ expr_step (l.Scalar query)
unfolding same
same_scalar query = first_of (search (rules, the_lemmas), grind (arith, the_lemmas))

pub same_exists : (query : ℕ) → same (r.Exists query) ≡ expr_step (l.Exists query)
unfolding same
same_exists query = first_of (search (rules, the_lemmas), grind (arith, the_lemmas))

pub same_in_query : (x : RExpr) (query : ℕ) (to : Ty) → same (r.InQuery x query to) ≡ expr_step (l.InQuery (same x) query to)
unfolding same
same_in_query x query to = first_of (search (rules, the_lemmas), grind (arith, the_lemmas))

binary_first : (op : Operator) (p : RPair) → same (r.Binary op p) ≡ expr_step (l.Binary op (pair_raw p))
unfolding same pair_raw
binary_first op p = first_of (search (rules, the_lemmas), grind (arith, the_lemmas))

pub same_binary : (op : Operator) (p : RPair) → same (r.Binary op p) ≡ expr_step (l.Binary op (same_pair p))
same_binary op p = binary_first op p ∙ ap (λ (is : Is RPair). expr_step (l.Binary op is)) (pair_out p)

chain_node_first : (p : RChain) → same (r.Chain p) ≡ expr_step (l.Chain (chain_raw p))
unfolding same chain_raw
chain_node_first p = first_of (search (rules, the_lemmas), grind (arith, the_lemmas))

pub same_chain_node : (p : RChain) → same (r.Chain p) ≡ expr_step (l.Chain (same_chain p))
same_chain_node p = chain_node_first p ∙ ap (λ (is : Is RChain). expr_step (l.Chain is)) (chain_out p)

case_node_first : (p : RCase) → same (r.Case p) ≡ expr_step (l.Case (case_raw p))
unfolding same case_raw
case_node_first p = first_of (search (rules, the_lemmas), grind (arith, the_lemmas))

pub same_case_node : (p : RCase) → same (r.Case p) ≡ expr_step (l.Case (same_case p))
same_case_node p = case_node_first p ∙ ap (λ (is : Is RCase). expr_step (l.Case is)) (case_out p)

pub ruleset equations = (same_constant, same_place, same_cast, same_unary, same_and, same_or, same_coalesce, same_combined, same_row, same_call, same_scalar, same_exists, same_in_query, same_binary, same_chain_node, same_case_node)
