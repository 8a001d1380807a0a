-- One level of each tree of expressions and queries. A definition over whole trees is a fold: it
-- says what a level means once its parts have their meanings.
use Rattle.pl_tree.specs.declared.tree.Argument.TheOpen.{Argument-F, Expr-F, From-F, Item-F}
use Rattle.pl_tree.specs.declared.tree.Argument.TheOpen.{Arm-F, Factor-F, Join-F, Key-F}
use Rattle.pl_tree.specs.declared.tree.Argument.TheOpen.{Query-F, Term-F}
use Rattle.pl_tree.specs.declared.tree.Argument.{Argument, fold-Argument}
use Rattle.pl_tree.specs.declared.tree.Expr.{Expr, fold-Expr}
use Rattle.pl_tree.specs.declared.tree.From.{From, fold-From}
use Rattle.pl_tree.specs.declared.tree.Item.{Item, fold-Item}
use Rattle.pl_tree.specs.declared.tree.Arm.{Arm, fold-Arm}
use Rattle.pl_tree.specs.declared.tree.Factor.{Factor, fold-Factor}
use Rattle.pl_tree.specs.declared.tree.Join.{Join, fold-Join}
use Rattle.pl_tree.specs.declared.tree.Key.{Key, fold-Key}
use Rattle.pl_tree.specs.declared.tree.Query.{Query, fold-Query}
use Rattle.pl_tree.specs.declared.tree.Term.{Term, fold-Term}

-- what the parts of each kind mean: arguments, expressions, FROM, items, arms, factors, joins,
-- order keys, queries, terms
module _ (A E F I R C J K Q T : Type 0) where
  abbrev pub ArgumentLayer : Type 0
  ArgumentLayer = Argument-F A E F I R C J K Q T

  abbrev pub ExprLayer : Type 0
  ExprLayer = Expr-F A E F I R C J K Q T

  abbrev pub FromLayer : Type 0
  FromLayer = From-F A E F I R C J K Q T

  abbrev pub ItemLayer : Type 0
  ItemLayer = Item-F A E F I R C J K Q T

  abbrev pub ArmLayer : Type 0
  ArmLayer = Arm-F A E F I R C J K Q T

  abbrev pub FactorLayer : Type 0
  FactorLayer = Factor-F A E F I R C J K Q T

  abbrev pub JoinLayer : Type 0
  JoinLayer = Join-F A E F I R C J K Q T

  abbrev pub KeyLayer : Type 0
  KeyLayer = Key-F A E F I R C J K Q T

  abbrev pub QueryLayer : Type 0
  QueryLayer = Query-F A E F I R C J K Q T

  abbrev pub TermLayer : Type 0
  TermLayer = Term-F A E F I R C J K Q T
