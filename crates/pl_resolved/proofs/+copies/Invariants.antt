use Rattle.std.proofs.Common.{◌≡◌, take}
use Rattle.pl_resolved.proofs.+copies.Given as goal

abbrev pub invariant-copies::copy_arms-loop-arm : goal.invariant-copies::copy_arms-loop-arm
invariant-copies::copy_arms-loop-arm l = l.copied ≡ take l.arm-index l.arms

abbrev pub invariant-copies::copy_exprs-loop-expr : goal.invariant-copies::copy_exprs-loop-expr
invariant-copies::copy_exprs-loop-expr l = l.copied ≡ take l.expr-index l.list

abbrev pub invariant-copies::copy_steps-loop-step : goal.invariant-copies::copy_steps-loop-step
invariant-copies::copy_steps-loop-step l = l.copied ≡ take l.step-index l.steps
