-- One equation for each kind of node: what a node reads, from what its parts read.
use Rattle.std.proofs.Common.{◌≡◌, ◌∙◌, ap, refl, ℕ, List, [], ◌∷◌, map, rules, arith}
use Rattle.std.specs.Option.{option_map}
use Rattle.pl_base.specs.declared.operator.Operator.{Operator}
use Rattle.pl_base.specs.declared.types.Ty.{Ty}
use Rattle.pl_base.specs.declared.value.Value.{Value}
use Rattle.pl_resolved.specs.declared.expression.Combination.{Combination}
use Rattle.pl_resolved.specs.declared.expression.RArm.{RArm, fold-RArm}
use Rattle.pl_resolved.specs.declared.expression.RCase.{RCase, out-RCase, fold-RCase}
use Rattle.pl_resolved.specs.declared.expression.RChain.{RChain, out-RChain, fold-RChain}
use Rattle.pl_resolved.specs.declared.expression.RExpr.{RExpr, the_lemmas}
use Rattle.pl_resolved.specs.declared.expression.RExpr.TheOpen as l
use Rattle.pl_resolved.specs.declared.expression.RExpr.TheVariants as r
use Rattle.pl_resolved.specs.declared.expression.RPair.{RPair, fold-RPair}
use Rattle.pl_resolved.specs.declared.expression.RStep.{RStep, fold-RStep}
use Rattle.pl_grouping.specs.Equality.{Is}
use Rattle.pl_grouping.specs.Columns.{Asked, reads_as, expr_step, arm_step, case_step, chain_step, pair_step, step_step}
use Rattle.pl_grouping.specs.Columns.{arm_reads, case_reads, chain_reads, pair_reads, step_reads}

unfoldable arm_raw : Asked → RArm → Is RArm
arm_raw a = fold-RArm (Is RExpr) (Is RArm) (Is RCase) (Is RChain) (Is RPair) (Is RStep)
    (expr_step a) (arm_step a) (case_step a) (chain_step a) (pair_step a) (step_step a)

unfoldable case_raw : Asked → RCase → Is RCase
case_raw a = fold-RCase (Is RExpr) (Is RArm) (Is RCase) (Is RChain) (Is RPair) (Is RStep)
    (expr_step a) (arm_step a) (case_step a) (chain_step a) (pair_step a) (step_step a)

unfoldable chain_raw : Asked → RChain → Is RChain
chain_raw a = fold-RChain (Is RExpr) (Is RArm) (Is RCase) (Is RChain) (Is RPair) (Is RStep)
    (expr_step a) (arm_step a) (case_step a) (chain_step a) (pair_step a) (step_step a)

unfoldable pair_raw : Asked → RPair → Is RPair
pair_raw a = fold-RPair (Is RExpr) (Is RArm) (Is RCase) (Is RChain) (Is RPair) (Is RStep)
    (expr_step a) (arm_step a) (case_step a) (chain_step a) (pair_step a) (step_step a)

unfoldable step_raw : Asked → RStep → Is RStep
step_raw a = fold-RStep (Is RExpr) (Is RArm) (Is RCase) (Is RChain) (Is RPair) (Is RStep)
    (expr_step a) (arm_step a) (case_step a) (chain_step a) (pair_step a) (step_step a)

arm_out : (a : Asked) (x : RArm) → arm_raw a x ≡ arm_reads a x
unfolding arm_raw reads_as
arm_out a x = first_of (search (rules, the_lemmas), grind (arith, the_lemmas))

pair_out : (a : Asked) (x : RPair) → pair_raw a x ≡ pair_reads a x
unfolding pair_raw reads_as
pair_out a x = first_of (search (rules, the_lemmas), grind (arith, the_lemmas))

step_out : (a : Asked) (x : RStep) → step_raw a x ≡ step_reads a x
unfolding step_raw reads_as
step_out a x = first_of (search (rules, the_lemmas), grind (arith, the_lemmas))

map_arm : (a : Asked) (xs : List RArm) → map (arm_raw a) xs ≡ map (arm_reads a) xs
map_arm a [] = refl
map_arm a (x ∷ xs) = cc (arm_out a x, map_arm a xs)

map_step : (a : Asked) (xs : List RStep) → map (step_raw a) xs ≡ map (step_reads a) xs
map_step a [] = refl
map_step a (x ∷ xs) = cc (step_out a x, map_step a xs)

chain_first : (a : Asked) (x : RChain) → chain_raw a x ≡ chain_step a (record { first = reads_as a (out-RChain x).first; steps = map (step_raw a) (out-RChain x).steps })
unfolding chain_raw step_raw reads_as
chain_first a x = first_of (search (rules, the_lemmas), grind (arith, the_lemmas))

chain_out : (a : Asked) (x : RChain) → chain_raw a x ≡ chain_reads a x
chain_out a x = chain_first a x ∙ ap (λ (ss : List (Is RStep)). chain_step a (record { first = reads_as a (out-RChain x).first; steps = ss })) (map_step a (out-RChain x).steps)

case_first : (a : Asked) (x : RCase) → case_raw a x ≡ case_step a (record { operand = option_map (reads_as a) (out-RCase x).operand; arms = map (arm_raw a) (out-RCase x).arms; otherwise = option_map (reads_as a) (out-RCase x).otherwise; to = (out-RCase x).to })
unfolding case_raw arm_raw reads_as
case_first a x = first_of (search (rules, the_lemmas), grind (arith, the_lemmas))

case_out : (a : Asked) (x : RCase) → case_raw a x ≡ case_reads a x
case_out a x = case_first a x ∙ ap (λ (parts : List (Is RArm)). case_step a (record { operand = option_map (reads_as a) (out-RCase x).operand; arms = parts; otherwise = option_map (reads_as a) (out-RCase x).otherwise; to = (out-RCase x).to })) (map_arm a (out-RCase x).arms)

pub reads_constant : (a : Asked) (v : Value) → reads_as a (r.Constant v) ≡ expr_step a (l.Constant v)
unfolding reads_as
reads_constant a v = first_of (search (rules, the_lemmas), grind (arith, the_lemmas))

pub reads_place : (a : Asked) (row column : ℕ) → reads_as a (r.Place row column) ≡ expr_step a (l.Place row column)
unfolding reads_as
reads_place a row column = first_of (search (rules, the_lemmas), grind (arith, the_lemmas))

pub reads_cast : (a : Asked) (x : RExpr) (types : List Ty) → reads_as a (r.Cast x types) ≡ expr_step a (l.Cast (reads_as a x) types)
unfolding reads_as
reads_cast a x types = first_of (search (rules, the_lemmas), grind (arith, the_lemmas))

pub reads_unary : (a : Asked) (op : Operator) (n : ℕ) (x : RExpr) → reads_as a (r.Unary op n x) ≡ expr_step a (l.Unary op n (reads_as a x))
unfolding reads_as
reads_unary a op n x = first_of (search (rules, the_lemmas), grind (arith, the_lemmas))

pub reads_and : (a : Asked) (xs : List RExpr) → reads_as a (r.And xs) ≡ expr_step a (l.And (map (reads_as a) xs))
unfolding reads_as
reads_and a xs = first_of (search (rules, the_lemmas), grind (arith, the_lemmas))

pub reads_or : (a : Asked) (xs : List RExpr) → reads_as a (r.Or xs) ≡ expr_step a (l.Or (map (reads_as a) xs))
unfolding reads_as
reads_or a xs = first_of (search (rules, the_lemmas), grind (arith, the_lemmas))

pub reads_coalesce : (a : Asked) (xs : List RExpr) (to : Ty) → reads_as a (r.Coalesce xs to) ≡ expr_step a (l.Coalesce (map (reads_as a) xs) to)
unfolding reads_as
reads_coalesce a xs to = first_of (search (rules, the_lemmas), grind (arith, the_lemmas))

pub reads_combined : (a : Asked) (by : Combination) (xs : List RExpr) → reads_as a (r.Combined by xs) ≡ expr_step a (l.Combined by (map (reads_as a) xs))
unfolding reads_as
reads_combined a by xs = first_of (search (rules, the_lemmas), grind (arith, the_lemmas))

pub reads_row : (a : Asked) (xs : List RExpr) (types : List Ty) → reads_as a (r.Row xs types) ≡ expr_step a (l.Row (map (reads_as a) xs) types)
unfolding reads_as
reads_row a xs types = first_of (search (rules, the_lemmas), grind (arith, the_lemmas))

pub reads_call : (a : Asked) (name : List ℕ) (xs : List RExpr) → reads_as a (r.Call name xs) ≡ expr_step a (l.Call name (map (reads_as a) xs))
unfolding reads_as
reads_call a name xs = first_of (search (rules, the_lemmas), grind (arith, the_lemmas))

pub reads_scalar : (a : Asked) (query : ℕ) → reads_as a (r.Scalar query) ≡ expr_step a (l.Scalar query)
unfolding reads_as
reads_scalar a query = first_of (search (rules, the_lemmas), grind (arith, the_lemmas))

pub reads_exists : (a : Asked) (query : ℕ) → reads_as a (r.Exists query) ≡ expr_step a (l.Exists query)
unfolding reads_as
reads_exists a query = first_of (search (rules, the_lemmas), grind (arith, the_lemmas))

pub reads_in_query : (a : Asked) (x : RExpr) (query : ℕ) (to : Ty) → reads_as a (r.InQuery x query to) ≡ expr_step a (l.InQuery (reads_as a x) query to)
unfolding reads_as
reads_in_query a x query to = first_of (search (rules, the_lemmas), grind (arith, the_lemmas))

binary_node : (a : Asked) (op : Operator) (p : RPair) → reads_as a (r.Binary op p) ≡ expr_step a (l.Binary op (pair_raw a p))
unfolding reads_as pair_raw
binary_node a op p = first_of (search (rules, the_lemmas), grind (arith, the_lemmas))

pub reads_binary : (a : Asked) (op : Operator) (p : RPair) → reads_as a (r.Binary op p) ≡ expr_step a (l.Binary op (pair_reads a p))
reads_binary a op p = binary_node a op p ∙ ap (λ (is : Is RPair). expr_step a (l.Binary op is)) (pair_out a p)

chain_node : (a : Asked) (p : RChain) → reads_as a (r.Chain p) ≡ expr_step a (l.Chain (chain_raw a p))
unfolding reads_as chain_raw
chain_node a p = first_of (search (rules, the_lemmas), grind (arith, the_lemmas))

pub reads_chain : (a : Asked) (p : RChain) → reads_as a (r.Chain p) ≡ expr_step a (l.Chain (chain_reads a p))
reads_chain a p = chain_node a p ∙ ap (λ (is : Is RChain). expr_step a (l.Chain is)) (chain_out a p)

case_node : (a : Asked) (p : RCase) → reads_as a (r.Case p) ≡ expr_step a (l.Case (case_raw a p))
unfolding reads_as case_raw
case_node a p = first_of (search (rules, the_lemmas), grind (arith, the_lemmas))

pub reads_case : (a : Asked) (p : RCase) → reads_as a (r.Case p) ≡ expr_step a (l.Case (case_reads a p))
reads_case a p = case_node a p ∙ ap (λ (is : Is RCase). expr_step a (l.Case is)) (case_out a p)

pub ruleset equations = (reads_constant, reads_place, reads_cast, reads_unary, reads_and, reads_or, reads_coalesce, reads_combined, reads_row, reads_call, reads_scalar, reads_exists, reads_in_query, reads_binary, reads_chain, reads_case)
