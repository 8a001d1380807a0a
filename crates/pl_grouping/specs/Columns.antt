-- Columns that stand outside GROUP BY: PostgreSQL manual, "The GROUP BY and HAVING Clauses".
use Rattle.std.specs.Prelude.{ℕ, zero, suc, ◌-◌, Bool, false, not, ◌&&◌, ◌||◌, nat_le, nat_lt}
use Rattle.std.specs.Prelude.{List, [], ◌∷◌, Option, Some, None, map, option_map, slice_get}
use Rattle.pl_resolved.specs.Layers.{ExprLayer, ArmLayer, CaseLayer, ChainLayer, PairLayer, StepLayer}
use Rattle.pl_resolved.specs.declared.expression.RArm.{RArm, out-RArm}
use Rattle.pl_resolved.specs.declared.expression.RCase.{RCase, out-RCase}
use Rattle.pl_resolved.specs.declared.expression.RChain.{RChain, out-RChain}
use Rattle.pl_resolved.specs.declared.expression.RExpr.{RExpr, out-RExpr, fold-RExpr}
use Rattle.pl_resolved.specs.declared.expression.RExpr.TheOpen as l
use Rattle.pl_resolved.specs.declared.expression.RPair.{RPair, out-RPair}
use Rattle.pl_resolved.specs.declared.expression.RStep.{RStep, out-RStep}
use Rattle.pl_grouping.specs.declared.ungrouped.Asked.{Asked as AskedOf}
use Rattle.pl_grouping.specs.Equality.{Is, Over, OverTrees, same}
use Rattle.pl_grouping.specs.Fronts.{is_begun_cast, is_begun_unary, steps_begun}

-- what is asked: the keys, and from where to where the rows of the query's FROM stand
pub record Asked : Type 0 where
  pub keys : List RExpr
  pub first : ℕ
  pub end : ℕ
  -- of each query from this number on, whether it reads such a row; those before it read none
  pub since : ℕ
  pub queries : List Bool

abbrev pub asking : AskedOf → Asked
asking a = record {
  keys = a.keys.now;
  first = a.first;
  end = a.end;
  since = a.since;
  queries = a.queries.now;
}

abbrev pub is_own : Asked → ℕ → Bool
is_own a row = nat_le a.first row && nat_lt row a.end

-- the part equals a key
abbrev pub is_one_of : List RExpr → RExpr → Bool
is_one_of [] x = false
is_one_of (key ∷ keys) x = same key x || is_one_of keys x

abbrev pub read_or_not : Option Bool → Bool
read_or_not (Some reads) = reads
read_or_not None = false

-- the query of this number reads such a row
abbrev pub query_reads : Asked → ℕ → Bool
query_reads a n = nat_le a.since n && read_or_not (slice_get a.queries (n - a.since))

-- ---- one level of an expression, over what its parts read when they are these trees

-- a part that equals a key is read of the group
abbrev pub part_reads : Asked → Is RExpr → Is RExpr
part_reads a reads x = not (is_one_of a.keys x) && reads x

abbrev pub any_reads : Asked → List (Is RExpr) → List RExpr → Bool
any_reads a (reads ∷ more) (x ∷ xs) = part_reads a reads x || any_reads a more xs
any_reads a parts xs = false

abbrev pub reads_if_any : Asked → Option (Is RExpr) → Option RExpr → Bool
reads_if_any a (Some reads) (Some x) = part_reads a reads x
reads_if_any a part x = false

-- of arms
abbrev pub one_does : {A : Type 0} → List (Is A) → List A → Bool
one_does (does ∷ more) (x ∷ xs) = does x || one_does more xs
one_does parts xs = false

-- the same of those behind the first ones, so many of them
abbrev pub one_behind_does : {A : Type 0} → ℕ → List (Is A) → List A → Bool
one_behind_does n [] xs = false
one_behind_does n (does ∷ more) [] = false
one_behind_does zero (does ∷ more) (x ∷ xs) = does x || one_behind_does zero more xs
one_behind_does (suc n) (does ∷ more) (x ∷ xs) = one_behind_does n more xs

abbrev pub inside : Asked → Over ExprLayer → OverTrees ExprLayer → Bool
inside a (l.Place row column) x = is_own a row
inside a (l.Cast reads types) (l.Cast x types') =
    not (is_begun_cast a.keys x types') && part_reads a reads x
inside a (l.Unary op n reads) (l.Unary op' n' x) =
    not (is_begun_unary a.keys op' n' x) && part_reads a reads x
inside a (l.Binary op reads) (l.Binary op' x) = reads x
inside a (l.Chain reads) (l.Chain x) = reads x
inside a (l.And parts) (l.And xs) = any_reads a parts xs
inside a (l.Or parts) (l.Or xs) = any_reads a parts xs
inside a (l.Case reads) (l.Case x) = reads x
inside a (l.Coalesce parts to) (l.Coalesce xs to') = any_reads a parts xs
inside a (l.Combined by parts) (l.Combined by' xs) = any_reads a parts xs
inside a (l.Row parts types) (l.Row xs types') = any_reads a parts xs
inside a (l.Call name parts) (l.Call name' xs) = any_reads a parts xs
inside a (l.Scalar query) x = query_reads a query
inside a (l.Exists query) x = query_reads a query
inside a (l.InQuery reads query to) (l.InQuery x query' to') =
    query_reads a query || part_reads a reads x
inside a layer x = false

abbrev pub expr_step : Asked → Over ExprLayer → Is RExpr
expr_step a layer x = inside a layer (out-RExpr x)

abbrev pub arm_step : Asked → Over ArmLayer → Is RArm
arm_step a layer x =
    part_reads a layer.when (out-RArm x).when
    || part_reads a layer.«then» (out-RArm x).«then»

abbrev pub case_step : Asked → Over CaseLayer → Is RCase
case_step a layer x =
    reads_if_any a layer.operand (out-RCase x).operand
    || (one_does layer.arms (out-RCase x).arms
    || reads_if_any a layer.otherwise (out-RCase x).otherwise)

abbrev pub first_reads : ℕ → Asked → Over ChainLayer → Is RChain
first_reads zero a layer x = part_reads a layer.first (out-RChain x).first
first_reads n a layer x = false

-- a chain that a key begins reads what stands behind it
abbrev pub chain_step : Asked → Over ChainLayer → Is RChain
chain_step a layer x =
    first_reads (steps_begun a.keys x) a layer x
    || one_behind_does (steps_begun a.keys x) layer.steps (out-RChain x).steps

abbrev pub pair_step : Asked → Over PairLayer → Is RPair
pair_step a layer x =
    part_reads a layer.first (out-RPair x).first
    || part_reads a layer.second (out-RPair x).second

abbrev pub step_step : Asked → Over StepLayer → Is RStep
step_step a layer x = part_reads a layer.operand (out-RStep x).operand

unfoldable pub reads_as : Asked → RExpr → Is RExpr
reads_as a = fold-RExpr (Is RExpr) (Is RArm) (Is RCase) (Is RChain) (Is RPair) (Is RStep)
    (expr_step a) (arm_step a) (case_step a) (chain_step a) (pair_step a) (step_step a)

-- the expression reads an own row outside of each part that equals a key
abbrev pub tree_reads : Asked → RExpr → Bool
tree_reads a x = part_reads a (reads_as a x) x

-- ---- parts, as the code comes to them

abbrev pub pair_reads : Asked → RPair → Is RPair
pair_reads a p = pair_step a (record {
  first = reads_as a (out-RPair p).first;
  second = reads_as a (out-RPair p).second;
})

abbrev pub step_reads : Asked → RStep → Is RStep
step_reads a s = step_step a (record {
  operator = (out-RStep s).operator;
  operand = reads_as a (out-RStep s).operand;
})

abbrev pub arm_reads : Asked → RArm → Is RArm
arm_reads a x = arm_step a (record {
  when = reads_as a (out-RArm x).when;
  «then» = reads_as a (out-RArm x).«then»;
})

abbrev pub chain_reads : Asked → RChain → Is RChain
chain_reads a c = chain_step a (record {
  first = reads_as a (out-RChain c).first;
  steps = map (step_reads a) (out-RChain c).steps;
})

abbrev pub case_reads : Asked → RCase → Is RCase
case_reads a c = case_step a (record {
  operand = option_map (reads_as a) (out-RCase c).operand;
  arms = map (arm_reads a) (out-RCase c).arms;
  otherwise = option_map (reads_as a) (out-RCase c).otherwise;
  to = (out-RCase c).to;
})
