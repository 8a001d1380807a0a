-- One level of each resolved tree. A definition over whole trees is a fold: it says what a level
-- means once its parts have their meanings.
use Rattle.pl_resolved.specs.declared.expression.RExpr.TheOpen.{RExpr-F, RArm-F, RCase-F, RChain-F}
use Rattle.pl_resolved.specs.declared.expression.RExpr.TheOpen.{RPair-F, RStep-F}
use Rattle.pl_resolved.specs.declared.expression.RExpr.{RExpr, fold-RExpr}
use Rattle.pl_resolved.specs.declared.expression.RArm.{RArm, fold-RArm}
use Rattle.pl_resolved.specs.declared.expression.RCase.{RCase, fold-RCase}
use Rattle.pl_resolved.specs.declared.expression.RChain.{RChain, fold-RChain}
use Rattle.pl_resolved.specs.declared.expression.RPair.{RPair, fold-RPair}
use Rattle.pl_resolved.specs.declared.expression.RStep.{RStep, fold-RStep}
use Rattle.pl_resolved.specs.declared.query.RSource.TheOpen.{RSource-F, RJoin-F}
use Rattle.pl_resolved.specs.declared.query.RSource.{RSource, fold-RSource}
use Rattle.pl_resolved.specs.declared.query.RJoin.{RJoin, fold-RJoin}

-- what the parts of each kind mean: expressions, arms, cases, chains, pairs, steps
module _ (E A C H P S : Type 0) where
  abbrev pub ExprLayer : Type 0
  ExprLayer = RExpr-F E A C H P S

  abbrev pub ArmLayer : Type 0
  ArmLayer = RArm-F E A C H P S

  abbrev pub CaseLayer : Type 0
  CaseLayer = RCase-F E A C H P S

  abbrev pub ChainLayer : Type 0
  ChainLayer = RChain-F E A C H P S

  abbrev pub PairLayer : Type 0
  PairLayer = RPair-F E A C H P S

  abbrev pub StepLayer : Type 0
  StepLayer = RStep-F E A C H P S

-- what the parts of each kind mean: items of FROM, joins
module _ (S J : Type 0) where
  abbrev pub SourceLayer : Type 0
  SourceLayer = RSource-F S J

  abbrev pub JoinLayer : Type 0
  JoinLayer = RJoin-F S J
