use Rattle.std.proofs.Common.{◌+◌, ◌∙◌, List, ap, drop, sym}
use Rattle.pl_asking.proofs.Aimed.{aimed_all, aimed_failed, aimed_more, aimed_none, behind_those}
use Rattle.pl_asking.proofs.resolving.aim_all.Goals as goal
use Rattle.pl_calling.specs.pl_engine.Engines.{world}
use Rattle.pl_world.specs.Resolving.{Variable, aiming_all}

pub loop-target-init : goal.loop-target-init
loop-target-init c =
    let w = world c.args.engine.now in
    let objects = w.database.objects in
    let st = w.frame.static in
    aimed_none objects st c.args.targets.now
    ∙ ap (λ (all : List Variable). behind_those all (aiming_all c.args.targets.now objects st)) (sym c.new-all.ensures)

pub returns-in_err-variable : goal.returns-in_err-variable
returns-in_err-variable c =
    let w = world c.args.engine.now in
    aimed_failed w.database.objects w.frame.static c.args.targets.now _ c.loop-target.all _ c.loop-target.invariant _ c.loop-target-test.true c.target-item.is c.from_residual.result _ c.from_residual.ensures.1 c.in_err-variable.ensures

pub loop-target-preserved : goal.loop-target-preserved
loop-target-preserved c =
    let w = world c.args.engine.now in
    let objects = w.database.objects in
    let st = w.frame.static in
    aimed_more objects st c.args.targets.now _ c.loop-target.all _ c.loop-target.invariant _ c.loop-target-test.true c.target-item.is c.in_ok-variable.variable c.in_ok-variable.ensures
    ∙ ap (λ (all : List Variable). behind_those all (aiming_all (drop (c.loop-target.target-index + 1) c.args.targets.now) objects st)) (sym c.in_ok-push.ensures.ok)

pub returns : goal.returns
returns c =
    let w = world c.args.engine.now in
    aimed_all w.database.objects w.frame.static c.args.targets.now _ c.loop-target.all _ c.loop-target.invariant c.loop-target-test.false
