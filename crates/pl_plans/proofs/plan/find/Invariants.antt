use Rattle.std.proofs.Common.{List}
use Rattle.pl_catalog.specs.declared.object.Object.{Object}
use Rattle.pl_plans.specs.Plans.{AreMade}
use Rattle.pl_plans.proofs.plan.find.Given as goal

abbrev pub invariant-loop-plan : goal.invariant-loop-plan
invariant-loop-plan g l = (objects : List Object) → AreMade g.T.Tree.meaning objects l.initial.plan-items → AreMade g.T.Tree.meaning objects l.plan-items
