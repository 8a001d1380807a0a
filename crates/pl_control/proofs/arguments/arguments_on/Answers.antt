use Rattle.std.proofs.Common.{map, refl}
use Rattle.pl_control.proofs.arguments.arguments_on.Goals as goal
use Rattle.pl_names.specs.Names.{around}
use Rattle.pl_scope.proofs.InTurn.{ended, next, stops}
use Rattle.pl_scope.specs.Expressions.{arguments_on}
use Rattle.pl_scope.specs.Resolution.{argument_part}

pub returns-in_err-typed : goal.returns-in_err-typed
returns-in_err-typed c = rw (next (λ l. arguments_on (map argument_part l) c.loop-part.done (around c.args.names.now) c.loop-part.made) c.args.list.now c.loop-part.part-index c.part-item.result _ c.loop-part-test.true c.part-item.is c.loop-part.invariant) (stops _ _ _ _ _ _ c.from_residual.ensures.1 c.in_err-typed.ensures)

pub loop-part-preserved : goal.loop-part-preserved
loop-part-preserved c = rw (next (λ l. arguments_on (map argument_part l) c.loop-part.done (around c.args.names.now) c.loop-part.made) c.args.list.now c.loop-part.part-index c.part-item.result _ c.loop-part-test.true c.part-item.is c.loop-part.invariant, c.in_ok-typed.ensures, c.in_ok-done.ensures) refl

pub returns : goal.returns
returns c = ended (λ l. arguments_on (map argument_part l) c.loop-part.done (around c.args.names.now) c.loop-part.made) c.args.list.now c.loop-part.part-index _ c.loop-part-test.false c.loop-part.invariant
