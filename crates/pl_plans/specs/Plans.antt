-- What was resolved before, over the objects of a catalog.
use Rattle.std.specs.Prelude.{◌≡◌, List, Ok}
use Rattle.std.specs.List.{AllByRecursion}
use Rattle.pl_catalog.specs.declared.object.Object.{Object}
use Rattle.pl_names.specs.declared.scope.Scope.{Scope}
use Rattle.pl_plans.specs.declared.plan.Plan.{Plan}
use Rattle.pl_plans.specs.declared.plans.Plans.{Plans}
use Rattle.pl_scope.specs.Resolution.{resolved_expr, resolved_query}
use Rattle.pl_targets.specs.Changes.{resolved_delete, resolved_insert, resolved_update}
use Rattle.pl_typing.specs.Resolved.{Resolved}

-- what trees are resolved to, over objects and in a scope
abbrev pub Meaning : Type 0 → Type 0 → Type 0
Meaning T R = List Object → Scope → T → Resolved R

-- the plan is for this tree in this scope
pub record IsOf {T R : Type 0} (around : Scope) (t : T) (p : Plan T R) : Type 0 where
  pub tree : p.tree ≡ t
  pub scope : p.scope ≡ around

-- over these objects its tree is resolved to what it keeps
abbrev pub IsMade : {T R : Type 0} → Meaning T R → List Object → Plan T R → Type 0
IsMade meaning objects p = meaning objects p.scope p.tree ≡ Ok p.made

abbrev pub AreMade : {T R : Type 0} → Meaning T R → List Object → List (Plan T R) → Type 0
AreMade meaning objects plans = AllByRecursion (IsMade meaning objects) plans

-- all that is kept was resolved over these objects
pub record AreOver (objects : List Object) (plans : Plans) : Type 0 where
  pub exprs : AreMade resolved_expr objects plans.exprs.items
  pub queries : AreMade resolved_query objects plans.queries.items
  pub inserts : AreMade resolved_insert objects plans.inserts.items
  pub updates : AreMade resolved_update objects plans.updates.items
  pub deletes : AreMade resolved_delete objects plans.deletes.items
