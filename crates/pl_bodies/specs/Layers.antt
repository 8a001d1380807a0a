-- One level of each tree of statements. A definition over whole trees is a fold: it says what a
-- level means once its parts have their meanings.
use Rattle.pl_bodies.specs.declared.statement.StatementKind.TheOpen.{Block-F, Branch-F, CaseArm-F}
use Rattle.pl_bodies.specs.declared.statement.StatementKind.TheOpen.{Handler-F, Loop-F}
use Rattle.pl_bodies.specs.declared.statement.StatementKind.TheOpen.{Otherwise-F, Statement-F}
use Rattle.pl_bodies.specs.declared.statement.StatementKind.TheOpen.{StatementKind-F}

-- what the parts of each kind mean: kinds of statements, blocks, branches, arms, handlers, loops,
-- what ELSE has, statements
module _ (K B R A H L O S : Type 0) where
  abbrev pub StatementKindLayer : Type 0
  StatementKindLayer = StatementKind-F K B R A H L O S

  abbrev pub BlockLayer : Type 0
  BlockLayer = Block-F K B R A H L O S

  abbrev pub BranchLayer : Type 0
  BranchLayer = Branch-F K B R A H L O S

  abbrev pub CaseArmLayer : Type 0
  CaseArmLayer = CaseArm-F K B R A H L O S

  abbrev pub HandlerLayer : Type 0
  HandlerLayer = Handler-F K B R A H L O S

  abbrev pub LoopLayer : Type 0
  LoopLayer = Loop-F K B R A H L O S

  abbrev pub OtherwiseLayer : Type 0
  OtherwiseLayer = Otherwise-F K B R A H L O S

  abbrev pub StatementLayer : Type 0
  StatementLayer = Statement-F K B R A H L O S
