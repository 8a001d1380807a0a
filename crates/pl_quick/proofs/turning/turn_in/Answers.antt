use Rattle.std.proofs.Common.{ap, refl}
use Rattle.pl_quick.proofs.Olds.{stepped_in, taken_back}
use Rattle.pl_quick.proofs.Turns.{by_continue, by_exit, by_next}
use Rattle.pl_quick.proofs.turning.turn_in.Goals as goal
use Rattle.pl_quick.specs.Scratch.{in_world}
use Rattle.pl_quick.specs.declared.scratch.Scratch.{Scratch}

pub returns-then-not-take_step : goal.returns-then-not-take_step
returns-then-not-take_step c = λ w n body stand. ap (λ (s : Scratch). in_world s w) c.if-not-take_step.ensures

pub returns-in-Next : goal.returns-in-Next
returns-in-Next c =
    let took = c.if-not-take_step.ensures in
    λ w. by_next c.args.acts.now (in_world c.args.scratch.now w) (in_world c.take_step.new.self w) took.0 (stepped_in w c.args.scratch.now c.take_step.new.self took) (in_world c.act_all.new.scratch w) c.act_all.result c.in-Next.is (c.act_all.ensures.computes w)

pub returns-in-Continue : goal.returns-in-Continue
returns-in-Continue c =
    let took = c.if-not-take_step.ensures in
    λ w. by_continue c.args.acts.now (in_world c.args.scratch.now w) (in_world c.take_step.new.self w) took.0 (stepped_in w c.args.scratch.now c.take_step.new.self took) (in_world c.act_all.new.scratch w) c.act_all.result c.in-Continue.is (c.act_all.ensures.computes w)

pub returns-in-Exit : goal.returns-in-Exit
returns-in-Exit c =
    let took = c.if-not-take_step.ensures in
    λ w. by_exit c.args.acts.now (in_world c.args.scratch.now w) (in_world c.take_step.new.self w) took.0 (stepped_in w c.args.scratch.now c.take_step.new.self took) (in_world c.act_all.new.scratch w) c.act_all.result c.in-Exit.is (c.act_all.ensures.computes w)

pub returns-in-Return : goal.returns-in-Return
returns-in-Return c = λ w n body stand.
    taken_back w c.args.scratch.now.steps c.args.scratch.now c.take_step.new.self c.act_all.new.scratch c.take_back.new.scratch c.requires.none c.if-not-take_step.ensures c.act_all.ensures.tracked c.take_back.ensures.values c.take_back.ensures.steps refl

pub returns-in-Left : goal.returns-in-Left
returns-in-Left c = λ w n body stand.
    taken_back w c.args.scratch.now.steps c.args.scratch.now c.take_step.new.self c.act_all.new.scratch c.take_back-in-Left.new.scratch c.requires.none c.if-not-take_step.ensures c.act_all.ensures.tracked c.take_back-in-Left.ensures.values c.take_back-in-Left.ensures.steps refl
