use Rattle.std.proofs.Common.{List, arith, subst, sym}
use Rattle.pl_plans.proofs.Each.{lent, of_one, with_one}
use Rattle.pl_plans.proofs.plan.find.Goals as goal
use Rattle.pl_plans.proofs.plan.find.Goals.{then-plan-place+in_default, else-plan-place}
use Rattle.pl_plans.specs.Plans.{AreMade, IsMade}
use Rattle.pl_plans.specs.declared.plan.Plan.{Plan}

pub returns-in-Some-clause-gives : goal.returns-in-Some-clause-gives
returns-in-Some-clause-gives g c = λ objects all.
    let Kept : List (Plan g.row.T.Denot g.row.R.Denot) → Type 0 = λ ps. AreMade g.T.Tree.meaning objects ps in
    let test = c.loop-plan-test.true in
    let long = c.loop-plan.auto.plan-items in
    let before = c.loop-plan.invariant objects (subst Kept (sym c.deref_mut-plan-items.ensures.value) all) in
    c.in-Some.ensures.gives objects (of_one (IsMade g.T.Tree.meaning objects) c.loop-plan.plan-items c.loop-plan.plan-index c.plan-item.result before (omega (arith, test, long)))

pub returns-in-Some-clause-made : goal.returns-in-Some-clause-made
returns-in-Some-clause-made g c = λ objects all.
    let Kept : List (Plan g.row.T.Denot g.row.R.Denot) → Type 0 = λ ps. AreMade g.T.Tree.meaning objects ps in
    let test = c.loop-plan-test.true in
    let long = c.loop-plan.auto.plan-items in
    let before = c.loop-plan.invariant objects (subst Kept (sym c.deref_mut-plan-items.ensures.value) all) in
    let here = of_one (IsMade g.T.Tree.meaning objects) c.loop-plan.plan-items c.loop-plan.plan-index c.plan-item.result before (omega (arith, test, long)) in
    lent (IsMade g.T.Tree.meaning objects) c.args.plans.now.len c.args.plans.now.items _ all
    (with_one (IsMade g.T.Tree.meaning objects) c.loop-plan.plan-items c.loop-plan.plan-index c.share.new.plan before (c.in-Some.ensures.made objects here))

pub loop-plan-preserved : goal.loop-plan-preserved
loop-plan-preserved g c = λ objects all.
    let test = c.loop-plan-test.true in
    let long = c.loop-plan.auto.plan-items in
    let before = c.loop-plan.invariant objects all in
    let here = of_one (IsMade g.T.Tree.meaning objects) c.loop-plan.plan-items c.loop-plan.plan-index c.plan-item.result before (omega (arith, test, long)) in
    let Kept : List (Plan g.row.T.Denot g.row.R.Denot) → Type 0 = λ ps. AreMade g.T.Tree.meaning objects ps in
    let with_plan = with_one (IsMade g.T.Tree.meaning objects) c.loop-plan.plan-items c.loop-plan.plan-index in
    elim c.if-plan-place.branch [
      | then-plan-place+in_default w ↦ subst Kept (sym w.plan-items-is) (with_plan w.share.new.plan before (w.share.ensures.made objects here))
      | else-plan-place w ↦ subst Kept (sym w.plan-items-is) (with_plan _ before here)
    ]

pub returns-clause-made : goal.returns-clause-made
returns-clause-made g c = λ objects all.
    let Kept : List (Plan g.row.T.Denot g.row.R.Denot) → Type 0 = λ ps. AreMade g.T.Tree.meaning objects ps in
    lent (IsMade g.T.Tree.meaning objects) c.args.plans.now.len c.args.plans.now.items c.loop-plan.plan-items all
    (c.loop-plan.invariant objects (subst Kept (sym c.deref_mut-plan-items.ensures.value) all))
