use Rattle.std.proofs.Common.{map, refl}
use Rattle.pl_asking.proofs.resolving.listed_on.Goals as goal
use Rattle.pl_calling.specs.pl_names.Names.{around}
use Rattle.pl_direct.proofs.of_pl_scope.InTurn.{ended, next, stops}
use Rattle.pl_direct.specs.pl_scope.Expressions.{listed_on}
use Rattle.pl_direct.specs.pl_scope.Resolution.{part}

pub returns-in_err-typed : goal.returns-in_err-typed
returns-in_err-typed c = rw (next (λ l. listed_on (map part l) c.loop-e.done (around c.args.names.now) c.loop-e.made) c.args.list.now c.loop-e.e-index c.e-item.result _ c.loop-e-test.true c.e-item.is c.loop-e.invariant) (stops _ _ _ _ _ _ c.from_residual.ensures.1 c.in_err-typed.ensures)

pub loop-e-preserved : goal.loop-e-preserved
loop-e-preserved c = rw (next (λ l. listed_on (map part l) c.loop-e.done (around c.args.names.now) c.loop-e.made) c.args.list.now c.loop-e.e-index c.e-item.result _ c.loop-e-test.true c.e-item.is c.loop-e.invariant, c.in_ok-typed.ensures, c.in_ok-done.ensures) refl

pub returns : goal.returns
returns c = ended (λ l. listed_on (map part l) c.loop-e.done (around c.args.names.now) c.loop-e.made) c.args.list.now c.loop-e.e-index _ c.loop-e-test.false c.loop-e.invariant
