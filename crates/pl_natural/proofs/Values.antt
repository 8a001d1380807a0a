-- Expressions need no more of the state than the calls of routines and the queries inside them: an
-- induction over the resolved trees.
use Rattle.std.proofs.Common.{◌≡◌, refl, sym, ap, ◌∙◌, subst, false, true, List, map, Option, Some, None}
use Rattle.std.specs.List.{AllZip}
use Rattle.std.specs.Option.{option_map}
use Rattle.pl_base.specs.declared.types.Ty.{Ty}
use Rattle.pl_natural.proofs.Goes.{Beside, BothIf, both, each, each_known, settles}
use Rattle.pl_natural.proofs.Parts.{PairsAgree, StepsAgree, all_agree, cased_agrees, chained_agrees, coalesced_agrees, exists_agrees, in_query_agrees, junction_agrees, one_agrees, scalar_agrees, two_agrees}
use Rattle.pl_natural.proofs.Rolled.{arm_meant, arm_rolled, case_meant, case_rolled, chain_meant, chain_rolled, meant, pair_meant, pair_rolled, step_meant, step_rolled, value_rolled}
use Rattle.pl_natural.specs.Kept.{CallsAgree, PartsAgree, SubsAgree, kept}
use Rattle.pl_resolved.specs.Layers.{ArmLayer, CaseLayer, ChainLayer, ExprLayer, PairLayer, StepLayer}
use Rattle.pl_resolved.specs.declared.expression.RArm.{RArm, map-RArm, roll-RArm}
use Rattle.pl_resolved.specs.declared.expression.RCase.{RCase, map-RCase, roll-RCase}
use Rattle.pl_resolved.specs.declared.expression.RChain.{RChain, map-RChain, roll-RChain}
use Rattle.pl_resolved.specs.declared.expression.RExpr.{RExpr, map-RExpr, roll-RExpr}
use Rattle.pl_resolved.specs.declared.expression.RExpr.TheFolds.{ind-RExpr}
use Rattle.pl_resolved.specs.declared.expression.RExpr.TheOpen as e
use Rattle.pl_resolved.specs.declared.expression.RPair.{RPair, map-RPair, roll-RPair}
use Rattle.pl_resolved.specs.declared.expression.RStep.{RStep, map-RStep, roll-RStep}
use Rattle.pl_value.specs.Combined.{cast_through, combined, repeated, row_value}
use Rattle.pl_value.specs.Meaning.{Calls, Pair, Part, Step, Sub, arm, arm_step, case, case_step, chain, chain_step, pair, pair_step, step, step_step, value, value_step}
use Rattle.pl_value.specs.Reading.{got, settled}

module _ {W V : Type 0} (keep : W → V) where
  -- what is the same as things that agree
  parts_same : (p q : Part W) (p' q' : Part V) → p ≡ q → p' ≡ q' → PartsAgree keep q q' → PartsAgree keep p p'
  parts_same p q p' q' is is' same frame w = ap (λ (r : Part V). r frame (keep w)) is' ∙ (same frame w ∙ sym (ap (λ (r : Part W). kept keep (r frame w)) is))

  pairs_same : (p q : Pair W) (p' q' : Pair V) → p ≡ q → p' ≡ q' → PairsAgree keep q q' → PairsAgree keep p p'
  pairs_same p q p' q' is is' same = (parts_same p.0 q.0 p'.0 q'.0 (λ i. (is i).0) (λ i. (is' i).0) same.0, parts_same p.1 q.1 p'.1 q'.1 (λ i. (is i).1) (λ i. (is' i).1) same.1)

  steps_same : (p q : Step W) (p' q' : Step V) → p ≡ q → p' ≡ q' → StepsAgree keep q q' → StepsAgree keep p p'
  steps_same p q p' q' is is' same = ((λ i. (is' i).0) ∙ (same.0 ∙ sym (λ i. (is i).0)), parts_same p.1 q.1 p'.1 q'.1 (λ i. (is i).1) (λ i. (is' i).1) same.1)

module _ {W V : Type 0} (keep : W → V) (calls : Calls W) (calls' : Calls V) (called : CallsAgree keep calls calls') (sub : Sub W) (sub' : Sub V) (subs : SubsAgree keep sub sub') where
  abbrev ExprAgrees : RExpr → Type 0
  ExprAgrees x = PartsAgree keep (value calls sub x) (value calls' sub' x)

  abbrev ArmAgrees : RArm → Type 0
  ArmAgrees x = PairsAgree keep (arm calls sub x) (arm calls' sub' x)

  abbrev CaseAgrees : RCase → Type 0
  CaseAgrees x = PartsAgree keep (case calls sub x) (case calls' sub' x)

  abbrev ChainAgrees : RChain → Type 0
  ChainAgrees x = PartsAgree keep (chain calls sub x) (chain calls' sub' x)

  abbrev PairAgrees : RPair → Type 0
  PairAgrees x = PairsAgree keep (pair calls sub x) (pair calls' sub' x)

  abbrev StepAgrees : RStep → Type 0
  StepAgrees x = StepsAgree keep (step calls sub x) (step calls' sub' x)

  -- parts that agree
  abbrev E : Type 0
  E = Beside RExpr ExprAgrees

  abbrev A : Type 0
  A = Beside RArm ArmAgrees

  abbrev C : Type 0
  C = Beside RCase CaseAgrees

  abbrev H : Type 0
  H = Beside RChain ChainAgrees

  abbrev P : Type 0
  P = Beside RPair PairAgrees

  abbrev S : Type 0
  S = Beside RStep StepAgrees

  -- the parts alone
  abbrev parts : ExprLayer E A C H P S → ExprLayer RExpr RArm RCase RChain RPair RStep
  parts = map-RExpr E A C H P S RExpr RArm RCase RChain RPair RStep (λ x. x.0) (λ x. x.0) (λ x. x.0) (λ x. x.0) (λ x. x.0) (λ x. x.0)

  abbrev arm_parts : ArmLayer E A C H P S → ArmLayer RExpr RArm RCase RChain RPair RStep
  arm_parts = map-RArm E A C H P S RExpr RArm RCase RChain RPair RStep (λ x. x.0) (λ x. x.0) (λ x. x.0) (λ x. x.0) (λ x. x.0) (λ x. x.0)

  abbrev case_parts : CaseLayer E A C H P S → CaseLayer RExpr RArm RCase RChain RPair RStep
  case_parts = map-RCase E A C H P S RExpr RArm RCase RChain RPair RStep (λ x. x.0) (λ x. x.0) (λ x. x.0) (λ x. x.0) (λ x. x.0) (λ x. x.0)

  abbrev chain_parts : ChainLayer E A C H P S → ChainLayer RExpr RArm RCase RChain RPair RStep
  chain_parts = map-RChain E A C H P S RExpr RArm RCase RChain RPair RStep (λ x. x.0) (λ x. x.0) (λ x. x.0) (λ x. x.0) (λ x. x.0) (λ x. x.0)

  abbrev pair_parts : PairLayer E A C H P S → PairLayer RExpr RArm RCase RChain RPair RStep
  pair_parts = map-RPair E A C H P S RExpr RArm RCase RChain RPair RStep (λ x. x.0) (λ x. x.0) (λ x. x.0) (λ x. x.0) (λ x. x.0) (λ x. x.0)

  abbrev step_parts : StepLayer E A C H P S → StepLayer RExpr RArm RCase RChain RPair RStep
  step_parts = map-RStep E A C H P S RExpr RArm RCase RChain RPair RStep (λ x. x.0) (λ x. x.0) (λ x. x.0) (λ x. x.0) (λ x. x.0) (λ x. x.0)

  abbrev these : List E → List (Part W)
  these xs = map (value calls sub) (map (λ (x : E). x.0) xs)

  abbrev those : List E → List (Part V)
  those xs = map (value calls' sub') (map (λ (x : E). x.0) xs)

  node_agrees : (y : ExprLayer E A C H P S) → PartsAgree keep (value_step calls sub (meant calls sub (parts y))) (value_step calls' sub' (meant calls' sub' (parts y)))
  node_agrees (e.Constant v) frame w = refl
  node_agrees (e.Place row column) frame w = refl
  node_agrees (e.Cast x types) frame w = one_agrees keep (cast_through types) (value calls sub x.0) (value calls' sub' x.0) x.1 frame w
  node_agrees (e.Unary op n x) frame w = one_agrees keep (repeated op n) (value calls sub x.0) (value calls' sub' x.0) x.1 frame w
  node_agrees (e.Binary op x) frame w = two_agrees keep op (pair calls sub x.0) (pair calls' sub' x.0) x.1 frame w
  node_agrees (e.Chain x) frame w = x.1 frame w
  node_agrees (e.And xs) frame w = junction_agrees keep false (these xs) (those xs) (each_known (PartsAgree keep) (value calls sub) (value calls' sub') xs) frame w
  node_agrees (e.Or xs) frame w = junction_agrees keep true (these xs) (those xs) (each_known (PartsAgree keep) (value calls sub) (value calls' sub') xs) frame w
  node_agrees (e.Case x) frame w = x.1 frame w
  node_agrees (e.Coalesce xs to) frame w = coalesced_agrees keep to (these xs) (those xs) (each_known (PartsAgree keep) (value calls sub) (value calls' sub') xs) frame w
  node_agrees (e.Combined c xs) frame w =
      all_agree keep (λ vs w. settled (combined c vs) w) (λ vs v. settled (combined c vs) v) (λ vs w. settles keep (combined c vs) w) (these xs) (those xs)
      (each_known (PartsAgree keep) (value calls sub) (value calls' sub') xs) frame w
  node_agrees (e.Row xs types) frame w =
      all_agree keep (λ vs w. got (row_value types vs) w) (λ vs v. got (row_value types vs) v) (λ vs w. refl) (these xs) (those xs)
      (each_known (PartsAgree keep) (value calls sub) (value calls' sub') xs) frame w
  node_agrees (e.Call routine xs) frame w =
      all_agree keep (calls routine) (calls' routine) (called routine) (these xs) (those xs) (each_known (PartsAgree keep) (value calls sub) (value calls' sub') xs) frame w
  node_agrees (e.Scalar query) frame w = scalar_agrees keep sub sub' subs query frame w
  node_agrees (e.Exists query) frame w = exists_agrees keep sub sub' subs query frame w
  node_agrees (e.InQuery x query to) frame w = in_query_agrees keep sub sub' subs (value calls sub x.0) (value calls' sub' x.0) x.1 query to frame w

  abbrev whens : List A → List (Pair W)
  whens xs = map (arm calls sub) (map (λ (x : A). x.0) xs)

  abbrev whens' : List A → List (Pair V)
  whens' xs = map (arm calls' sub') (map (λ (x : A). x.0) xs)

  whens_agree : (xs : List A) → AllZip (PairsAgree keep) (whens xs) (whens' xs)
  whens_agree xs = each_known (PairsAgree keep) (arm calls sub) (arm calls' sub') xs

  abbrev case_of : Option E → List A → Option E → Ty → CaseLayer E A C H P S
  case_of operand xs otherwise to = record { operand = operand; arms = xs; otherwise = otherwise; to = to }

  case_agrees : (operand : Option E) (xs : List A) (otherwise : Option E) (to : Ty)
      → PartsAgree keep (case_step (case_meant calls sub (case_parts (case_of operand xs otherwise to)))) (case_step (case_meant calls' sub' (case_parts (case_of operand xs otherwise to))))
  case_agrees None xs None to frame w = cased_agrees keep None None tt (whens xs) (whens' xs) (whens_agree xs) None None tt to frame w
  case_agrees None xs (Some y) to frame w =
      cased_agrees keep None None tt (whens xs) (whens' xs) (whens_agree xs) (Some (value calls sub y.0)) (Some (value calls' sub' y.0)) y.1 to frame w
  case_agrees (Some x) xs None to frame w =
      cased_agrees keep (Some (value calls sub x.0)) (Some (value calls' sub' x.0)) x.1 (whens xs) (whens' xs) (whens_agree xs) None None tt to frame w
  case_agrees (Some x) xs (Some y) to frame w =
      cased_agrees keep (Some (value calls sub x.0)) (Some (value calls' sub' x.0)) x.1 (whens xs) (whens' xs) (whens_agree xs)
      (Some (value calls sub y.0)) (Some (value calls' sub' y.0)) y.1 to frame w

  chain_agrees : (y : ChainLayer E A C H P S) → PartsAgree keep (chain_step (chain_meant calls sub (chain_parts y))) (chain_step (chain_meant calls' sub' (chain_parts y)))
  chain_agrees y frame w =
      chained_agrees keep (value calls sub y.first.0) (value calls' sub' y.first.0) y.first.1
      (map (step calls sub) (map (λ (x : S). x.0) y.steps)) (map (step calls' sub') (map (λ (x : S). x.0) y.steps)) (each_known (StepsAgree keep) (step calls sub) (step calls' sub') y.steps) frame w

  pub value_agrees : (x : RExpr) → PartsAgree keep (value calls sub x) (value calls' sub' x)
  value_agrees =
      ind-RExpr ExprAgrees ArmAgrees CaseAgrees ChainAgrees PairAgrees StepAgrees
      (λ d y is. subst (λ z. ExprAgrees (roll-RExpr z)) is
      (parts_same keep (value calls sub (roll-RExpr (parts y))) (value_step calls sub (meant calls sub (parts y))) (value calls' sub' (roll-RExpr (parts y))) (value_step calls' sub' (meant calls' sub' (parts y)))
      (value_rolled calls sub (parts y)) (value_rolled calls' sub' (parts y)) (node_agrees y)))
      (λ d y is. subst (λ z. ArmAgrees (roll-RArm z)) is
      (pairs_same keep (arm calls sub (roll-RArm (arm_parts y))) (arm_step (arm_meant calls sub (arm_parts y))) (arm calls' sub' (roll-RArm (arm_parts y))) (arm_step (arm_meant calls' sub' (arm_parts y)))
      (arm_rolled calls sub (arm_parts y)) (arm_rolled calls' sub' (arm_parts y)) (y.when.1, y.then.1)))
      (λ d y is. subst (λ z. CaseAgrees (roll-RCase z)) is
      (parts_same keep (case calls sub (roll-RCase (case_parts y))) (case_step (case_meant calls sub (case_parts y))) (case calls' sub' (roll-RCase (case_parts y))) (case_step (case_meant calls' sub' (case_parts y)))
      (case_rolled calls sub (case_parts y)) (case_rolled calls' sub' (case_parts y)) (case_agrees y.operand y.arms y.otherwise y.to)))
      (λ d y is. subst (λ z. ChainAgrees (roll-RChain z)) is
      (parts_same keep (chain calls sub (roll-RChain (chain_parts y))) (chain_step (chain_meant calls sub (chain_parts y))) (chain calls' sub' (roll-RChain (chain_parts y))) (chain_step (chain_meant calls' sub' (chain_parts y)))
      (chain_rolled calls sub (chain_parts y)) (chain_rolled calls' sub' (chain_parts y)) (chain_agrees y)))
      (λ d y is. subst (λ z. PairAgrees (roll-RPair z)) is
      (pairs_same keep (pair calls sub (roll-RPair (pair_parts y))) (pair_step (pair_meant calls sub (pair_parts y))) (pair calls' sub' (roll-RPair (pair_parts y))) (pair_step (pair_meant calls' sub' (pair_parts y)))
      (pair_rolled calls sub (pair_parts y)) (pair_rolled calls' sub' (pair_parts y)) (y.first.1, y.second.1)))
      (λ d y is. subst (λ z. StepAgrees (roll-RStep z)) is
      (steps_same keep (step calls sub (roll-RStep (step_parts y))) (step_step (step_meant calls sub (step_parts y))) (step calls' sub' (roll-RStep (step_parts y))) (step_step (step_meant calls' sub' (step_parts y)))
      (step_rolled calls sub (step_parts y)) (step_rolled calls' sub' (step_parts y)) (refl, y.operand.1)))

  pub each_agrees : (xs : List RExpr) → AllZip (PartsAgree keep) (map (value calls sub) xs) (map (value calls' sub') xs)
  each_agrees = each (PartsAgree keep) (value calls sub) (value calls' sub') value_agrees

  pub if_agrees : (o : Option RExpr) → BothIf (PartsAgree keep) (option_map (value calls sub) o) (option_map (value calls' sub') o)
  if_agrees = both (PartsAgree keep) (value calls sub) (value calls' sub') value_agrees
