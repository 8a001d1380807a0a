use Rattle.std.proofs.Common.{◌≡◌, drop, map}
use Rattle.pl_waiting.specs.Waiting.{any_waits, arm_waits, branch_waits, handler_waits, statement_waits}
use Rattle.pl_waiting.proofs.waiting.+waiting.Given as goal

abbrev pub invariant-any_statement-loop-statement : goal.invariant-any_statement-loop-statement
invariant-any_statement-loop-statement l =
    any_waits (map statement_waits l.statements) ≡ any_waits (map statement_waits (drop l.statement-index l.statements))

abbrev pub invariant-any_branch-loop-branch : goal.invariant-any_branch-loop-branch
invariant-any_branch-loop-branch l =
    any_waits (map branch_waits l.branches) ≡ any_waits (map branch_waits (drop l.branch-index l.branches))

abbrev pub invariant-any_arm-loop-arm : goal.invariant-any_arm-loop-arm
invariant-any_arm-loop-arm l =
    any_waits (map arm_waits l.arms) ≡ any_waits (map arm_waits (drop l.arm-index l.arms))

abbrev pub invariant-any_handler-loop-handler : goal.invariant-any_handler-loop-handler
invariant-any_handler-loop-handler l =
    any_waits (map handler_waits l.handlers) ≡ any_waits (map handler_waits (drop l.handler-index l.handlers))
