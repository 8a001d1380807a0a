-- What the parts of a tree mean, one kind after another.
use Rattle.std.specs.Prelude.{ℕ, List, Option, Bool}
use Rattle.pl_base.specs.declared.operator.Operator.{Operator}
use Rattle.pl_names.specs.declared.scope.Source.{Source}
use Rattle.pl_names.specs.declared.sources.Items.{Items}
use Rattle.pl_names.specs.declared.sources.Sourced.{Sourced}
use Rattle.pl_scope.specs.Answers.{Means}
use Rattle.pl_scope.specs.declared.made.Inner.{Inner}
use Rattle.pl_scope.specs.declared.written.Written.{Written}
use Rattle.pl_tree.specs.declared.tree.JoinKind.{JoinKind}
use Rattle.pl_tree.specs.declared.tree.Nulls.{Nulls}
use Rattle.pl_typing.specs.declared.typed.Typed.{Typed}

-- an expression: how it is written, where a bare number or name means more, and what it means
pub record Part : Type 0 where
  pub written : Written
  pub means : Means Typed

abbrev pub ArgumentPart : Type 0
ArgumentPart = Means Typed

-- an operator and its second operand
pub record StepPart : Type 0 where
  pub by : Operator
  pub operand : Part

pub record ArmPart : Type 0 where
  pub when : Part
  pub gives : Part

-- an item of a FROM whose first row is the one of this number
abbrev pub FromPart : Type 0
FromPart = ℕ → Means Sourced

-- what an item of a select list puts behind those before it, over these items of FROM
abbrev pub ItemPart : Type 0
ItemPart = List Source → Items → Means Items

pub record JoinPart : Type 0 where
  pub kind : JoinKind
  pub with : FromPart
  pub condition : Option Part

pub record KeyPart : Type 0 where
  pub value : Part
  pub is_descending : Bool
  pub nulls : Option Nulls

abbrev pub QueryPart : Type 0
QueryPart = Means Inner

-- a query before it is read
pub record QueryParts : Type 0 where
  pub is_distinct : Bool
  pub items : List ItemPart
  pub from : List FromPart
  pub condition : Option Part
  pub groups : List Part
  pub having : Option Part
  pub order : List KeyPart
  pub limit : Option Part
  pub offset : Option Part
