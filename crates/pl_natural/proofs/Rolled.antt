-- One equation for each kind of node: what it means, from what its parts mean.
use Rattle.std.proofs.Common.{◌≡◌}
use Rattle.pl_resolved.specs.Layers.{ArmLayer, CaseLayer, ChainLayer, ExprLayer, PairLayer, StepLayer}
use Rattle.pl_resolved.specs.declared.expression.RArm.{RArm, map-RArm, roll-RArm}
use Rattle.pl_resolved.specs.declared.expression.RCase.{RCase, map-RCase, roll-RCase}
use Rattle.pl_resolved.specs.declared.expression.RChain.{RChain, map-RChain, roll-RChain}
use Rattle.pl_resolved.specs.declared.expression.RExpr.{RExpr, map-RExpr, roll-RExpr}
use Rattle.pl_resolved.specs.declared.expression.RExpr.TheFolds.{fold-roll-RArm, fold-roll-RCase, fold-roll-RChain, fold-roll-RExpr, fold-roll-RPair, fold-roll-RStep}
use Rattle.pl_resolved.specs.declared.expression.RPair.{RPair, map-RPair, roll-RPair}
use Rattle.pl_resolved.specs.declared.expression.RStep.{RStep, map-RStep, roll-RStep}
use Rattle.pl_value.specs.Meaning.{Calls, Pair, Part, Step, Sub, arm, arm_step, case, case_step, chain, chain_step, pair, pair_step, step, step_step, value, value_step}

module _ {W : Type 0} (calls : Calls W) (sub : Sub W) where
  abbrev pub meant : ExprLayer RExpr RArm RCase RChain RPair RStep → ExprLayer (Part W) (Pair W) (Part W) (Part W) (Pair W) (Step W)
  meant =
      map-RExpr RExpr RArm RCase RChain RPair RStep (Part W) (Pair W) (Part W) (Part W) (Pair W) (Step W)
      (value calls sub) (arm calls sub) (case calls sub) (chain calls sub) (pair calls sub) (step calls sub)

  pub value_rolled : (d : ExprLayer RExpr RArm RCase RChain RPair RStep) → value calls sub (roll-RExpr d) ≡ value_step calls sub (meant d)
  value_rolled d = fold-roll-RExpr (Part W) (Pair W) (Part W) (Part W) (Pair W) (Step W) (value_step calls sub) arm_step case_step chain_step pair_step step_step d

  abbrev pub arm_meant : ArmLayer RExpr RArm RCase RChain RPair RStep → ArmLayer (Part W) (Pair W) (Part W) (Part W) (Pair W) (Step W)
  arm_meant =
      map-RArm RExpr RArm RCase RChain RPair RStep (Part W) (Pair W) (Part W) (Part W) (Pair W) (Step W)
      (value calls sub) (arm calls sub) (case calls sub) (chain calls sub) (pair calls sub) (step calls sub)

  pub arm_rolled : (d : ArmLayer RExpr RArm RCase RChain RPair RStep) → arm calls sub (roll-RArm d) ≡ arm_step (arm_meant d)
  arm_rolled d = fold-roll-RArm (Part W) (Pair W) (Part W) (Part W) (Pair W) (Step W) (value_step calls sub) arm_step case_step chain_step pair_step step_step d

  abbrev pub case_meant : CaseLayer RExpr RArm RCase RChain RPair RStep → CaseLayer (Part W) (Pair W) (Part W) (Part W) (Pair W) (Step W)
  case_meant =
      map-RCase RExpr RArm RCase RChain RPair RStep (Part W) (Pair W) (Part W) (Part W) (Pair W) (Step W)
      (value calls sub) (arm calls sub) (case calls sub) (chain calls sub) (pair calls sub) (step calls sub)

  pub case_rolled : (d : CaseLayer RExpr RArm RCase RChain RPair RStep) → case calls sub (roll-RCase d) ≡ case_step (case_meant d)
  case_rolled d = fold-roll-RCase (Part W) (Pair W) (Part W) (Part W) (Pair W) (Step W) (value_step calls sub) arm_step case_step chain_step pair_step step_step d

  abbrev pub chain_meant : ChainLayer RExpr RArm RCase RChain RPair RStep → ChainLayer (Part W) (Pair W) (Part W) (Part W) (Pair W) (Step W)
  chain_meant =
      map-RChain RExpr RArm RCase RChain RPair RStep (Part W) (Pair W) (Part W) (Part W) (Pair W) (Step W)
      (value calls sub) (arm calls sub) (case calls sub) (chain calls sub) (pair calls sub) (step calls sub)

  pub chain_rolled : (d : ChainLayer RExpr RArm RCase RChain RPair RStep) → chain calls sub (roll-RChain d) ≡ chain_step (chain_meant d)
  chain_rolled d = fold-roll-RChain (Part W) (Pair W) (Part W) (Part W) (Pair W) (Step W) (value_step calls sub) arm_step case_step chain_step pair_step step_step d

  abbrev pub pair_meant : PairLayer RExpr RArm RCase RChain RPair RStep → PairLayer (Part W) (Pair W) (Part W) (Part W) (Pair W) (Step W)
  pair_meant =
      map-RPair RExpr RArm RCase RChain RPair RStep (Part W) (Pair W) (Part W) (Part W) (Pair W) (Step W)
      (value calls sub) (arm calls sub) (case calls sub) (chain calls sub) (pair calls sub) (step calls sub)

  pub pair_rolled : (d : PairLayer RExpr RArm RCase RChain RPair RStep) → pair calls sub (roll-RPair d) ≡ pair_step (pair_meant d)
  pair_rolled d = fold-roll-RPair (Part W) (Pair W) (Part W) (Part W) (Pair W) (Step W) (value_step calls sub) arm_step case_step chain_step pair_step step_step d

  abbrev pub step_meant : StepLayer RExpr RArm RCase RChain RPair RStep → StepLayer (Part W) (Pair W) (Part W) (Part W) (Pair W) (Step W)
  step_meant =
      map-RStep RExpr RArm RCase RChain RPair RStep (Part W) (Pair W) (Part W) (Part W) (Pair W) (Step W)
      (value calls sub) (arm calls sub) (case calls sub) (chain calls sub) (pair calls sub) (step calls sub)

  pub step_rolled : (d : StepLayer RExpr RArm RCase RChain RPair RStep) → step calls sub (roll-RStep d) ≡ step_step (step_meant d)
  step_rolled d = fold-roll-RStep (Part W) (Pair W) (Part W) (Part W) (Pair W) (Step W) (value_step calls sub) arm_step case_step chain_step pair_step step_step d
