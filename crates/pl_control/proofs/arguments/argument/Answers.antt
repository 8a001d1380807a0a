use Rattle.std.proofs.Common.{refl}
use Rattle.pl_control.proofs.arguments.argument.Goals as goal
use Rattle.pl_scope.proofs.Equations.{argument_named, argument_value}
use Rattle.pl_scope.proofs.InTurn.{stops}

pub returns-in_err-expr-in-FatalErrors : goal.returns-in_err-expr-in-FatalErrors
returns-in_err-expr-in-FatalErrors c = rw (c.in-FatalErrors.is, argument_named) (stops _ _ _ _ _ _ c.from_residual.ensures.1 c.in_err-expr-in-FatalErrors.ensures)

pub returns-in-Value : goal.returns-in-Value
returns-in-Value c = rw (c.in-Value.is, argument_value) c.expr.ensures

pub returns-in_ok-expr-in-FatalErrors : goal.returns-in_ok-expr-in-FatalErrors
returns-in_ok-expr-in-FatalErrors c = rw (c.in-FatalErrors.is, argument_named, c.in_ok-expr-in-FatalErrors.ensures) refl
