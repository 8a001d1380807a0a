use Rattle.std.proofs.Common.{◌≡◌, ◌-◌, ◌∙◌, List, None, Option, Some, ap, drop_of_length-le, false, refl, rules, subst, suc}
use Rattle.std.proofs.lemmas.Option.{IfSome_then}
use Rattle.pl_bodies.specs.declared.simple.Simple.TheVariants as simple
use Rattle.pl_bodies.specs.declared.statement.Block.{out-Block}
use Rattle.pl_bodies.specs.declared.statement.Body.{Body}
use Rattle.pl_bodies.specs.declared.statement.Statement.{Statement}
use Rattle.pl_engine.specs.Engines.{world}
use Rattle.pl_engine.specs.pl_world.Control.{else_of}
use Rattle.pl_engine.specs.pl_world.World.{World}
use Rattle.pl_names.specs.Names.{Name}
use Rattle.pl_quick.proofs.Forms.{front}
use Rattle.pl_quick.proofs.Entering.{gone, gone_keeps, made_within}
use Rattle.pl_quick.proofs.Plans.{all_paired, assign_for, assign_of, call_for, choice_for, if_for, jump_of, none_paired, null_for, one_paired, return_of, simple_for}
use Rattle.pl_quick.proofs.making.+making.Goals as goal
use Rattle.pl_quick.specs.Acts.{AreFor, AreWithin, CanBeCalled, IsForArm, IsForOne}
use Rattle.pl_quick.specs.declared.act.Act.TheVariants as act
use Rattle.pl_tree.specs.declared.tree.Expr.{Expr}

pub acts_for-loop-s-init : goal.acts_for-loop-s-init
acts_for-loop-s-init t c =
    let w = world c.args.engine.now in
    record {
      so_far = none_paired (λ a s. IsForOne c.args.depth a s w) _ c.args.statements.now c.new-acts.ensures;
      is = refl;
      keeps = refl;
    }

pub acts_for-loop-s-preserved : goal.acts_for-loop-s-preserved
acts_for-loop-s-preserved t c =
    let w = world c.args.engine.now in
    record {
      so_far = one_paired (λ a s. IsForOne c.args.depth a s w) c.loop-s.acts c.in_ok-act.act _ c.args.statements.now _ c.s-item.result _ c.loop-s.invariant.so_far
          (front c.args.statements.now c.loop-s.s-index c.s-item.result c.loop-s-test.true c.s-item.is)
          (subst (λ (w : World). IsForOne c.args.depth c.in_ok-act.act c.s-item.result w) c.loop-s.invariant.is c.in_ok-act.ensures.act) c.in-Ok.ensures.ok;
      is = c.in_ok-act.ensures.is ∙ c.loop-s.invariant.is;
      keeps = c.in_ok-act.ensures.keeps ∙ c.loop-s.invariant.keeps;
    }

pub acts_for-returns-clause-acts : goal.acts_for-returns-clause-acts
acts_for-returns-clause-acts t c =
    let w = world c.args.engine.now in
    all_paired (λ a s. IsForOne c.args.depth a s w) c.loop-s.acts c.args.statements.now _ c.loop-s.invariant.so_far (drop_of_length-le c.args.statements.now c.loop-s-test.false)

pub arms_for-loop-branch-init : goal.arms_for-loop-branch-init
arms_for-loop-branch-init t c =
    let w = world c.args.engine.now in
    record {
      so_far = none_paired (λ a b. IsForArm c.args.depth a b w) _ c.args.branches.now c.new-arms.ensures;
      is = refl;
      keeps = refl;
    }

pub arms_for-loop-branch-preserved : goal.arms_for-loop-branch-preserved
arms_for-loop-branch-preserved t c =
    let w = world c.args.engine.now in
    record {
      so_far = one_paired (λ a b. IsForArm c.args.depth a b w) c.loop-branch.arms c.in_ok-arm.arm _ c.args.branches.now _ c.branch-item.result _ c.loop-branch.invariant.so_far
          (front c.args.branches.now c.loop-branch.branch-index c.branch-item.result c.loop-branch-test.true c.branch-item.is)
          (subst (λ (w : World). IsForArm c.args.depth c.in_ok-arm.arm c.branch-item.result w) c.loop-branch.invariant.is c.in_ok-arm.ensures.arm) c.in-Ok.ensures.ok;
      is = c.in_ok-arm.ensures.is ∙ c.loop-branch.invariant.is;
      keeps = c.in_ok-arm.ensures.keeps ∙ c.loop-branch.invariant.keeps;
    }

pub arms_for-returns-clause-arms : goal.arms_for-returns-clause-arms
arms_for-returns-clause-arms t c =
    let w = world c.args.engine.now in
    all_paired (λ a b. IsForArm c.args.depth a b w) c.loop-branch.arms c.args.branches.now _ c.loop-branch.invariant.so_far (drop_of_length-le c.args.branches.now c.loop-branch-test.false)

pub act_for-returns-in-Simple-clause-act : goal.act_for-returns-in-Simple-clause-act
act_for-returns-in-Simple-clause-act t c =
    let more : c.args.depth ≡ suc (c.args.depth - 1) = search rules in
    IfSome_then c.simple_act.result c.simple_act.ensures.act (λ act stands. simple_for (c.args.depth - 1) c.args.depth act c.args.s.now _ _ (world c.args.engine.now) more c.in-Simple.is refl stands)

pub act_for-returns-in_ok-others-in-If-clause-act : goal.act_for-returns-in_ok-others-in-If-clause-act
act_for-returns-in_ok-others-in-If-clause-act t c =
    let w = world c.args.engine.now in
    let more : c.args.depth ≡ suc (c.args.depth - 1) = search rules in
    let arms = c.in_ok-arms-in-If.arms in
    let others = c.in_ok-others-in-If.others in
    if_for (c.args.depth - 1) c.args.depth (act.Choose arms others) c.args.s.now _ _ _ _ w more c.in-If.is c.as_slice.ensures refl
    (choice_for (c.args.depth - 1) w arms others c.as_slice.result.now c.in-If.otherwise c.in_ok-arms-in-If.ensures.arms
    (subst (λ (w : World). AreFor (c.args.depth - 1) others (else_of c.in-If.otherwise) w) c.in_ok-arms-in-If.ensures.is c.in_ok-others-in-If.ensures.acts))

pub arm_for-returns-clause-arm : goal.arm_for-returns-clause-arm
arm_for-returns-clause-arm t c = (
  c.in_ok-condition.ensures.reads,
  subst (λ (ss : List Statement). AreFor c.args.depth c.in_ok-acts.acts ss (world c.args.engine.now)) c.as_slice.ensures
      (subst (λ (w : World). AreFor c.args.depth c.in_ok-acts.acts c.as_slice.result.now w) c.in_ok-condition.ensures.is c.in_ok-acts.ensures.acts),
)

pub acts_within-returns : goal.acts_within-returns
acts_within-returns t c =
    let w = world c.args.engine.now in
    let ss : c.as_slice.result.now ≡ (out-Block c.args.callee.body.block).statements = c.as_slice.ensures ∙ ap (λ (b : Body). (out-Block b.block).statements) c.get.ensures in
    record {
      acts = IfSome_then c.acts_for-acts.result c.acts_for-acts.ensures.acts (λ acts stand. made_within c.args.depth acts c.args.callee c.as_slice.result.now c.args.callee.routine false c.new-none.result w (world c.enter.new.self) ss c.in-Ok.ensures.is stand);
      is = gone c.args.callee.routine false c.args.callee.declared c.new-none.result c.args.engine.now c.enter.new.self c.acts_for-acts.new.engine c.leave.new.self c.in-Ok.ensures.is c.acts_for-acts.ensures.is c.leave.ensures.is;
      keeps = gone_keeps c.args.engine.now c.enter.new.self c.acts_for-acts.new.engine c.leave.new.self c.in-Ok.ensures.keeps c.acts_for-acts.ensures.keeps c.acts_for-acts.ensures.is c.leave.ensures.keeps;
    }

pub assign_for-returns-in_ok-acts-in-Some-clause-act : goal.assign_for-returns-in_ok-acts-in-Some-clause-act
assign_for-returns-in_ok-acts-in-Some-clause-act t c =
    let w = world c.args.engine.now in
    let assign = c.in_ok-assign.assign in
    let callee = c.in-Some.callee in
    let can = subst (λ (w : World). CanBeCalled callee assign.value w) c.in_ok-assign.ensures.is c.in-Some.ensures in
    call_for c.args.depth w assign callee c.in_ok-acts-in-Some.acts c.args.target.now c.args.e.now c.in_ok-assign.ensures.assigns can (subst (λ (w : World). AreWithin c.args.depth c.in_ok-acts-in-Some.acts callee w) c.in_ok-assign.ensures.is c.in_ok-acts-in-Some.ensures.acts)

pub assign_for-returns-in-None-clause-act : goal.assign_for-returns-in-None-clause-act
assign_for-returns-in-None-clause-act t c = assign_for c.args.depth (world c.args.engine.now) c.in_ok-assign.assign c.args.target.now c.args.e.now c.in_ok-assign.ensures.assigns

pub simple_act-returns-in-Null-clause-act : goal.simple_act-returns-in-Null-clause-act
simple_act-returns-in-Null-clause-act t c = null_for c.args.depth (world c.args.engine.now) c.args.s.now c.in-Null.is

pub simple_act-returns-in-Assign-clause-act : goal.simple_act-returns-in-Assign-clause-act
simple_act-returns-in-Assign-clause-act t c = IfSome_then c.assign_for.result c.assign_for.ensures.act (λ act stands. assign_of c.args.depth (world c.args.engine.now) act _ _ _ _ c.args.s.now c.in-Assign.is refl refl stands)

pub simple_act-returns-in-Jump-default-None-default-clause-act : goal.simple_act-returns-in-Jump-default-None-default-clause-act
simple_act-returns-in-Jump-default-None-default-clause-act t c =
    let j = c.in-Jump-default-None-default.jump in
    let e = c.in-Jump-default-None-default.condition in
    let none : c.in-Jump-default-None-default.label ≡ None = search rules in
    let is : c.args.s.now ≡ simple.Jump j None e = c.in-Jump-default-None-default.is ∙ ap (λ (l : Option Name). simple.Jump j l e) none in
    IfSome_then c.jump_for.result c.jump_for.ensures.act (λ act stands. jump_of c.args.depth (world c.args.engine.now) act j e e c.args.s.now is refl (stands c.args.depth))

pub simple_act-returns-in-Return-Some-clause-act : goal.simple_act-returns-in-Return-Some-clause-act
simple_act-returns-in-Return-Some-clause-act t c =
    let some : c.in-Return-Some.field-0 ≡ Some c.in-Return-Some.value = search rules in
    let is : c.args.s.now ≡ simple.Return (Some c.in-Return-Some.value) = c.in-Return-Some.is ∙ ap (λ (e : Option Expr). simple.Return e) some in
    IfSome_then c.return_for.result c.return_for.ensures.act (λ act stands. return_of c.args.depth (world c.args.engine.now) act c.in-Return-Some.value _ c.args.s.now is c.get.ensures (stands c.args.depth))
