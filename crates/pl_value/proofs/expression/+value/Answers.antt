use Rattle.std.proofs.Common.{rules, sym, subst, ap, ◌∙◌, ◌+◌, map, drop, Bool, Option, Some}
use Rattle.pl_base.specs.declared.value.Value.{Value}
use Rattle.pl_value.specs.Answers.{Reads}
use Rattle.pl_value.specs.Frames.{rows_of}
use Rattle.pl_value.specs.Meaning.{is_so, value, step, step_read, steps_read, truth}
use Rattle.pl_value.specs.Reading.{Reading, got, then_read}
use Rattle.pl_value.specs.Steps.{stops}
use Rattle.pl_value.proofs.Lists.{combined_is, call_is, row_is, and_is, or_is, binary_is, steps_here}
use Rattle.pl_value.proofs.Leaves.{two_leaves, two_left}
use Rattle.pl_value.proofs.Cases.{without_operand, with_operand, holds_by}
use Rattle.pl_value.proofs.Single.{single_is}
use Rattle.pl_value.proofs.Truths.{and_truth, or_truth, passes_gives, passes_is, truth_gives}
use Rattle.pl_value.proofs.expression.+value.Goals as goal

pub value_by_kind-returns-in-Binary : goal.value_by_kind-returns-in-Binary
value_by_kind-returns-in-Binary g t c = subst (λ (q : Reading _ Value). Reads {A = Value} q c.two.result c.two.new.caller)
    (sym (binary_is g.C.Caller.calls (g.S.Subqueries.sub c.args.sub.now) c.args.e.now c.in-Binary.operator c.in-Binary.operands _ (rows_of c.args.frame.now) c.args.caller.now c.in-Binary.is c.get-in-Binary.ensures)) c.two.ensures

pub value_by_kind-returns-in-And : goal.value_by_kind-returns-in-And
value_by_kind-returns-in-And g t c = subst (λ (q : Reading _ Value). Reads {A = Value} q c.all_or_any.result c.all_or_any.new.caller)
    (sym (and_is g.C.Caller.calls (g.S.Subqueries.sub c.args.sub.now) c.args.e.now c.in-And.parts _ (rows_of c.args.frame.now) c.args.caller.now c.in-And.is c.as_slice-in-And.ensures)) c.all_or_any.ensures

pub value_by_kind-returns-in-Or : goal.value_by_kind-returns-in-Or
value_by_kind-returns-in-Or g t c = subst (λ (q : Reading _ Value). Reads {A = Value} q c.all_or_any-in-Or.result c.all_or_any-in-Or.new.caller)
    (sym (or_is g.C.Caller.calls (g.S.Subqueries.sub c.args.sub.now) c.args.e.now c.in-Or.parts _ (rows_of c.args.frame.now) c.args.caller.now c.in-Or.is c.as_slice-in-Or.ensures)) c.all_or_any-in-Or.ensures

pub value_by_kind-returns-in-Combined : goal.value_by_kind-returns-in-Combined
value_by_kind-returns-in-Combined g t c = subst (λ (q : Reading _ Value). Reads {A = Value} q c.combined.result c.combined.new.caller)
    (sym (combined_is g.C.Caller.calls (g.S.Subqueries.sub c.args.sub.now) c.args.e.now c.in-Combined.combination c.in-Combined.operands _ (rows_of c.args.frame.now) c.args.caller.now c.in-Combined.is c.as_slice-in-Combined.ensures)) c.combined.ensures

pub value_by_kind-returns-in-Row : goal.value_by_kind-returns-in-Row
value_by_kind-returns-in-Row g t c = subst (λ (q : Reading _ Value). Reads {A = Value} q c.row_of.result c.row_of.new.caller)
    (sym (row_is g.C.Caller.calls (g.S.Subqueries.sub c.args.sub.now) c.args.e.now c.in-Row.types _ c.in-Row.fields _ (rows_of c.args.frame.now) c.args.caller.now c.in-Row.is (search rules) (search rules))) c.row_of.ensures

pub value_by_kind-returns-in-Call : goal.value_by_kind-returns-in-Call
value_by_kind-returns-in-Call g t c = subst (λ (q : Reading _ Value). Reads {A = Value} q c.call.result c.call.new.caller)
    (sym (call_is g.C.Caller.calls (g.S.Subqueries.sub c.args.sub.now) c.args.e.now c.in-Call.routine c.in-Call.arguments _ (rows_of c.args.frame.now) c.args.caller.now c.in-Call.is c.as_slice-in-Call.ensures)) c.call.ensures

pub two-returns-in-Some-Some : goal.two-returns-in-Some-Some
two-returns-in-Some-Some g t c =
    two_leaves g.C.Caller.calls (g.S.Subqueries.sub c.args.sub.now) c.args.operator c.args.pair.now c.in-Some-Some.x.now c.in-Some-Some.y.now (rows_of c.args.frame.now) c.args.caller.now c.of_two.result
    (c.in-Some-Some.ensures _ _ _) (c.in-Some-Some.ensures' _ _ _) (c.of_two.ensures _)

pub two-returns-in-None-Some : goal.two-returns-in-None-Some
two-returns-in-None-Some g t c =
    two_left g.C.Caller.calls (g.S.Subqueries.sub c.args.sub.now) c.args.operator c.args.pair.now c.in-None-Some.y.now (rows_of c.args.frame.now) c.args.caller.now c.left.new.caller c.left.result
    (λ w. c.in-None-Some.ensures' g.C.Caller.calls (g.S.Subqueries.sub c.args.sub.now) w) c.left.ensures

pub steps-returns-in-Err : goal.steps-returns-in-Err
steps-returns-in-Err g t c =
    stops {A = Value} {B = Value} _ (step_read ((step g.C.Caller.calls (g.S.Subqueries.sub c.args.sub.now)) c.step-item.result) c.loop-step.so_far (rows_of c.args.frame.now) c.loop-step.caller)
    (λ v w. steps_read (map (step g.C.Caller.calls (g.S.Subqueries.sub c.args.sub.now)) (drop (c.loop-step.step-index + 1) c.args.steps.now)) v (rows_of c.args.frame.now) w) _ _
    (steps_here (step g.C.Caller.calls (g.S.Subqueries.sub c.args.sub.now)) c.args.steps.now c.loop-step.step-index c.step-item.result c.loop-step-test.true c.step-item.is c.loop-step.so_far (rows_of c.args.frame.now) c.loop-step.caller c.loop-step.invariant)
    c.in-Err.ensures

pub steps-loop-step-preserved : goal.steps-loop-step-preserved
steps-loop-step-preserved g t c =
    steps_here (step g.C.Caller.calls (g.S.Subqueries.sub c.args.sub.now)) c.args.steps.now c.loop-step.step-index c.step-item.result c.loop-step-test.true c.step-item.is c.loop-step.so_far (rows_of c.args.frame.now) c.loop-step.caller c.loop-step.invariant
    ∙ ap (λ q. then_read q (λ v w. steps_read (map (step g.C.Caller.calls (g.S.Subqueries.sub c.args.sub.now)) (drop (c.loop-step.step-index + 1) c.args.steps.now)) v (rows_of c.args.frame.now) w)) c.in-Ok.ensures

pub cased-returns-in-None : goal.cased-returns-in-None
cased-returns-in-None g t c =
    without_operand g.C.Caller.calls (g.S.Subqueries.sub c.args.sub.now) c.args.case.now (rows_of c.args.frame.now) c.args.caller.now _ _
    c.in-None.is c.converted.ensures

pub cased-returns-in_ok-x-in-Some : goal.cased-returns-in_ok-x-in-Some
cased-returns-in_ok-x-in-Some g t c =
    with_operand g.C.Caller.calls (g.S.Subqueries.sub c.args.sub.now) c.args.case.now _ c.get.result.now _ c.get-in-Some.result.now (rows_of c.args.frame.now) c.args.caller.now c.value.new.caller c.converted-in-Some.new.caller c.converted-in-Some.result
    c.in-Some.is c.in_ok-x-in-Some.ensures c.converted-in-Some.ensures (search rules) (search rules)

pub meets-returns : goal.meets-returns
meets-returns g t c =
    holds_by (value g.C.Caller.calls (g.S.Subqueries.sub c.args.sub.now) c.args.when.now) (Some c.args.x.now) _ c.get.result.now (rows_of c.args.frame.now) c.args.caller.now c.value.new.caller c.is_met.result
    c.in_ok-v.ensures (search rules) (c.is_met.ensures c.value.new.caller)

pub chained-returns-in-Some : goal.chained-returns-in-Some
chained-returns-in-Some g t c =
    c.in-Some.ensures g.C.Caller.calls (g.S.Subqueries.sub c.args.sub.now) c.args.caller.now
    ∙ ap (λ (v : Value). got v c.args.caller.now) (sym c.made.ensures)

pub truth-returns-in-And : goal.truth-returns-in-And
truth-returns-in-And g t c = subst (λ (q : Reading _ (Option Bool)). Reads {A = Option Bool} q c.joined.result c.joined.new.caller)
    (sym (and_truth g.C.Caller.calls (g.S.Subqueries.sub c.args.sub.now) c.args.part.now c.in-And.parts _ (rows_of c.args.frame.now) c.args.caller.now c.in-And.is c.as_slice.ensures)) c.joined.ensures

pub truth-returns-in-Or : goal.truth-returns-in-Or
truth-returns-in-Or g t c = subst (λ (q : Reading _ (Option Bool)). Reads {A = Option Bool} q c.joined-in-Or.result c.joined-in-Or.new.caller)
    (sym (or_truth g.C.Caller.calls (g.S.Subqueries.sub c.args.sub.now) c.args.part.now c.in-Or.parts _ (rows_of c.args.frame.now) c.args.caller.now c.in-Or.is c.as_slice-in-Or.ensures)) c.joined-in-Or.ensures

pub truth-returns-in-Some : goal.truth-returns-in-Some
truth-returns-in-Some g t c =
    truth_gives (value g.C.Caller.calls (g.S.Subqueries.sub c.args.sub.now) c.args.part.now) _ (rows_of c.args.frame.now) c.args.caller.now
    (c.in-Some.ensures g.C.Caller.calls (g.S.Subqueries.sub c.args.sub.now) c.args.caller.now)

pub passes_by_truth-returns-in-Ok : goal.passes_by_truth-returns-in-Ok
passes_by_truth-returns-in-Ok g t c =
    passes_is (value g.C.Caller.calls (g.S.Subqueries.sub c.args.sub.now) c.args.condition.now) (rows_of c.args.frame.now) c.args.caller.now
    ∙ (ap (λ (q : Reading _ (Option Bool)). then_read {A = Option Bool} {B = Bool} q (λ t w. got (is_so t) w)) c.in-Ok.ensures
    ∙ ap (λ (b : Bool). got b c.truth.new.caller) (sym c.is_so.ensures))

pub passes_by_truth-returns-in-Err : goal.passes_by_truth-returns-in-Err
passes_by_truth-returns-in-Err g t c =
    stops {A = Option Bool} {B = Bool} _ (truth (value g.C.Caller.calls (g.S.Subqueries.sub c.args.sub.now) c.args.condition.now) (rows_of c.args.frame.now) c.args.caller.now)
    (λ t w. got (is_so t) w) _ _
    (passes_is (value g.C.Caller.calls (g.S.Subqueries.sub c.args.sub.now) c.args.condition.now) (rows_of c.args.frame.now) c.args.caller.now) c.in-Err.ensures

pub combined-returns-in-Some : goal.combined-returns-in-Some
combined-returns-in-Some g t c = subst (λ (q : Reading _ Value). Reads {A = Value} q c.single.result c.single.new.caller)
    (sym (single_is (value g.C.Caller.calls (g.S.Subqueries.sub c.args.sub.now)) c.args.combination c.args.parts.now _ (rows_of c.args.frame.now) c.args.caller.now c.in-Some.ensures)) c.single.ensures

pub passes-returns-in-Some : goal.passes-returns-in-Some
passes-returns-in-Some g t c =
    passes_gives (value g.C.Caller.calls (g.S.Subqueries.sub c.args.sub.now) c.args.condition.now) _ (rows_of c.args.frame.now) c.args.caller.now
    (c.in-Some.ensures g.C.Caller.calls (g.S.Subqueries.sub c.args.sub.now) c.args.caller.now)
