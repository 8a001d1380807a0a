use Rattle.std.proofs.Common.{◌≡◌, drop, map}
use Rattle.pl_body_rules.specs.Rules.{arm_view, branch_view, first, first_on, handler_view, in_statement}
use Rattle.pl_body_rules.proofs.rules.+rules.Given as goal

abbrev pub invariant-in_statements-loop-statement : goal.invariant-in_statements-loop-statement
invariant-in_statements-loop-statement l =
    (first (map (in_statement l.returns) l.statements) l.fn.frames ≡ first (map (in_statement l.returns) (drop l.statement-index l.statements)) l.frames) × (l.frames ≡ l.fn.frames)

abbrev pub invariant-in_branches-loop-branch : goal.invariant-in_branches-loop-branch
invariant-in_branches-loop-branch l =
    (first (map (branch_view l.returns) l.branches) l.fn.frames ≡ first (map (branch_view l.returns) (drop l.branch-index l.branches)) l.frames) × (l.frames ≡ l.fn.frames)

abbrev pub invariant-in_arms-loop-arm : goal.invariant-in_arms-loop-arm
invariant-in_arms-loop-arm l =
    (first (map (arm_view l.returns) l.arms) l.fn.frames ≡ first (map (arm_view l.returns) (drop l.arm-index l.arms)) l.frames) × (l.frames ≡ l.fn.frames)

abbrev pub invariant-in_handlers-loop-handler : goal.invariant-in_handlers-loop-handler
invariant-in_handlers-loop-handler l =
    (first_on l.label l.line (map (handler_view l.returns) l.handlers) l.fn.frames ≡ first_on l.label l.line (map (handler_view l.returns) (drop l.handler-index l.handlers)) l.frames) × (l.frames ≡ l.fn.frames)
