use Rattle.std.proofs.Common.{◌≡◌, ◌∙◌, Bool, None, Some, ap, drop_of_length-le, false, refl, rules, subst, sym, true}
use Rattle.std.proofs.lemmas.Option.{IfSome_then}
use Rattle.pl_direct.specs.declared.known.Known.TheVariants.{Bool as Truth}
use Rattle.pl_quick.proofs.Called.{call_does}
use Rattle.pl_quick.proofs.Forms.{acts_off, acts_on, all_arms_left, all_left, arm_does, assign_does, choice_does, front, jump_does, no_arm_left, none_left, nothing_does, one_does, others_left, return_does}
use Rattle.pl_quick.proofs.Olds.{stepped_in}
use Rattle.pl_quick.proofs.acting.+acting.Goals as goal
use Rattle.pl_quick.specs.Computing.{IsValue, outcome_of}
use Rattle.pl_quick.specs.Old.{undone_in}
use Rattle.pl_quick.specs.Scratch.{in_world}
use Rattle.pl_quick.specs.declared.act.Arm.{out-Arm}
use Rattle.pl_quick.specs.declared.scratch.Scratch.{Scratch}

-- ---- an act

pub act_form-returns-in-Nothing : goal.act_form-returns-in-Nothing
act_form-returns-in-Nothing t c = record {
  computes = λ w n k stands. nothing_does n k (in_world c.args.scratch.now w) c.args.act.now c.in-Nothing.is stands;
  tracked = refl;
}

pub act_form-returns-in-Assign : goal.act_form-returns-in-Assign
act_form-returns-in-Assign t c = record {
  computes = λ w. IfSome_then (outcome_of c.give.result) (c.give.ensures.computes w) (λ o gives n k stands.
      assign_does n k (in_world c.args.scratch.now w) c.args.act.now _ _ o (in_world c.give.new.scratch w) c.in-Assign.is refl c.give.ensures.steps gives stands);
  tracked = c.give.ensures.tracked;
}

pub act_form-returns-in-Jump : goal.act_form-returns-in-Jump
act_form-returns-in-Jump t c = record {
  computes = λ w. IfSome_then (outcome_of c.leave.result) (c.leave.ensures w) (λ o leaves n k stands.
      jump_does n k (in_world c.args.scratch.now w) c.args.act.now _ _ _ o c.in-Jump.is refl leaves stands);
  tracked = refl;
}

pub act_form-returns-in-Some : goal.act_form-returns-in-Some
act_form-returns-in-Some t c = record {
  computes = λ w. IfSome_then (outcome_of c.in-Some.end) (c.in-Some.ensures.chosen w) (λ o chosen n k stands.
      choice_does n k (in_world c.args.scratch.now w) c.args.act.now _ _ _ _ o (in_world c.choose.new.scratch w) c.in-Choose.is c.as_slice.ensures refl (λ n bs e stand otherwise. chosen n bs e stand) stands);
  tracked = c.choose.ensures.tracked;
}

pub act_form-returns-in-None : goal.act_form-returns-in-None
act_form-returns-in-None t c =
    let false_all = c.choose.ensures.none c.in-None.is in
    record {
      computes = λ w. IfSome_then (outcome_of c.act_all.result) (c.act_all.ensures.computes w) (λ o all n k stands.
          choice_does n k (in_world c.args.scratch.now w) c.args.act.now _ _ _ _ o (in_world c.act_all.new.scratch w) c.in-Choose.is c.as_slice.ensures c.as_slice-in-None.ensures
          (λ n bs e stand otherwise. false_all.otherwise w c.as_slice-in-None.result.now o (in_world c.act_all.new.scratch w) all n bs e stand otherwise) stands);
      tracked = c.act_all.ensures.tracked ∙ c.choose.ensures.tracked;
    }

pub act_form-returns-else-not-enter-clause-computes : goal.act_form-returns-else-not-enter-clause-computes
act_form-returns-else-not-enter-clause-computes t c = λ w. IfSome_then (outcome_of c.leave_call.result) c.leave_call.ensures.computes (λ o leaves n k stands.
    call_does n k w c.args.act.now _ _ _ _ _ _ o c.args.scratch.now c.enter.new.inner c.act_all-end.new.scratch c.leave_call.new.scratch c.act_all-end.result c.in-Call.is refl refl c.as_slice-in-Call.ensures
    (c.if-not-enter.ensures refl) c.act_all-end.ensures.computes leaves stands)

pub act_form-returns-in-Return : goal.act_form-returns-in-Return
act_form-returns-in-Return t c = record {
  computes = λ w. IfSome_then (outcome_of c.returned.result) (c.returned.ensures w) (λ o gives n k stands.
      return_does n k (in_world c.args.scratch.now w) c.args.act.now _ _ o c.in-Return.is refl gives stands);
  tracked = refl;
}

pub act_once-returns-then-not-take_step-clause-tracked : goal.act_once-returns-then-not-take_step-clause-tracked
act_once-returns-then-not-take_step-clause-tracked t c = ap (λ (s : Scratch). undone_in s) c.if-not-take_step.ensures

pub act_once-returns : goal.act_once-returns
act_once-returns t c =
    let took = c.if-not-take_step.ensures in
    record {
      computes = λ w. IfSome_then (outcome_of c.act_form.result) (c.act_form.ensures.computes w) (λ o does n s stands.
          one_does n c.args.act.now s o (in_world c.args.scratch.now w) (in_world c.take_step.new.self w) (in_world c.act_form.new.scratch w) took.0 (stepped_in w c.args.scratch.now c.take_step.new.self took) does stands);
      tracked = c.act_form.ensures.tracked ∙ ap (λ (s : Scratch). undone_in s) took.1;
    }

-- ---- one after another

pub act_all-loop-act-init : goal.act_all-loop-act-init
act_all-loop-act-init t c = record {
  so_far = λ w. all_left c.args.acts.now (in_world c.args.scratch.now w);
  tracked = refl;
}

pub act_all-returns-in_default : goal.act_all-returns-in_default
act_all-returns-in_default t c = record {
  computes = λ w. acts_off c.act_once.result c.args.acts.now _ c.act-item.result _ (in_world c.args.scratch.now w) (in_world c.loop-act.scratch w) (in_world c.act_once.new.scratch w) c.in_default.not-Next (c.loop-act.invariant.so_far w)
      (front c.args.acts.now c.loop-act.act-index c.act-item.result c.loop-act-test.true c.act-item.is) (c.act_once.ensures.computes w);
  tracked = c.act_once.ensures.tracked ∙ c.loop-act.invariant.tracked;
}

pub act_all-loop-act-preserved : goal.act_all-loop-act-preserved
act_all-loop-act-preserved t c = record {
  so_far = λ w. acts_on c.args.acts.now _ c.act-item.result _ (in_world c.args.scratch.now w) (in_world c.loop-act.scratch w) (in_world c.act_once.new.scratch w) (c.loop-act.invariant.so_far w)
      (front c.args.acts.now c.loop-act.act-index c.act-item.result c.loop-act-test.true c.act-item.is) refl (c.in-Next.ensures.computes w);
  tracked = c.act_once.ensures.tracked ∙ c.loop-act.invariant.tracked;
}

pub act_all-returns : goal.act_all-returns
act_all-returns t c = record {
  computes = λ w. none_left c.args.acts.now _ (in_world c.args.scratch.now w) (in_world c.loop-act.scratch w) (c.loop-act.invariant.so_far w) (drop_of_length-le c.args.acts.now c.loop-act-test.false);
  tracked = c.loop-act.invariant.tracked;
}

-- ---- IF

pub choose-loop-arm-init : goal.choose-loop-arm-init
choose-loop-arm-init t c = record {
  so_far = λ w. all_arms_left c.args.arms.now (in_world c.args.scratch.now w);
  same = refl;
}

pub choose-returns-in-Some-true : goal.choose-returns-in-Some-true
choose-returns-in-Some-true t c =
    let is : c.in-Some-true.field-0 ≡ true = search rules in
    record {
      chosen = λ w. IfSome_then (outcome_of c.act_all.result) (c.act_all.ensures.computes w) (λ o all n bs e stand.
          arm_does c.args.arms.now _ c.arm-item.result _ _ o (in_world c.args.scratch.now w) (in_world c.loop-arm.scratch w) (in_world c.act_all.new.scratch w) (c.loop-arm.invariant.so_far w)
          (front c.args.arms.now c.loop-arm.arm-index c.arm-item.result c.loop-arm-test.true c.arm-item.is) c.as_slice.ensures
          (subst (λ (b : Bool). IsValue (out-Arm c.arm-item.result).condition (Truth b) c.loop-arm.scratch.values) is c.in-Some-true.ensures) all n bs e stand);
      none = λ no. absurd (let it : Some c.act_all.result ≡ None = no in cc);
      tracked = c.act_all.ensures.tracked ∙ ap (λ (s : Scratch). undone_in s) (sym c.loop-arm.invariant.same);
    }

pub choose-returns-in-None-clause-tracked : goal.choose-returns-in-None-clause-tracked
choose-returns-in-None-clause-tracked t c = ap (λ (s : Scratch). undone_in s) (sym c.loop-arm.invariant.same)

pub choose-loop-arm-preserved : goal.choose-loop-arm-preserved
choose-loop-arm-preserved t c =
    let is : c.in-Some-false.field-0 ≡ false = search rules in
    record {
      so_far = λ w. others_left c.args.arms.now _ c.arm-item.result _ (in_world c.args.scratch.now w) (in_world c.loop-arm.scratch w) (c.loop-arm.invariant.so_far w)
          (front c.args.arms.now c.loop-arm.arm-index c.arm-item.result c.loop-arm-test.true c.arm-item.is) (subst (λ (b : Bool). IsValue (out-Arm c.arm-item.result).condition (Truth b) c.loop-arm.scratch.values) is c.in-Some-false.ensures);
      same = c.loop-arm.invariant.same;
    }

pub choose-returns : goal.choose-returns
choose-returns t c = record {
  chosen = λ w. tt;
  none = λ is. record {
    same = c.loop-arm.invariant.same;
    otherwise = λ w acts o new all n bs e stand otherwise.
        no_arm_left c.args.arms.now _ acts o (in_world c.args.scratch.now w) (in_world c.loop-arm.scratch w) new (c.loop-arm.invariant.so_far w) (drop_of_length-le c.args.arms.now c.loop-arm-test.false) (ap (λ (s : Scratch). in_world s w) c.loop-arm.invariant.same) all n bs e stand otherwise;
  };
  tracked = ap (λ (s : Scratch). undone_in s) (sym c.loop-arm.invariant.same);
}
