use Rattle.std.proofs.Common.{refl}
use Rattle.pl_direct.proofs.Named.{one_variable, spotted}
use Rattle.pl_direct.proofs.leaves.direct_variable.Goals as goal
use Rattle.pl_scope.specs.Resolution.{standing}

pub returns-in-Some : goal.returns-in-Some
returns-in-Some c = λ objects.
    one_variable c.args.name.now (standing objects c.args.scope.now) c.in-Some.spot.column c.in-Some.spot.seen.now.ty refl
    (spotted c.args.name.now (standing objects c.args.scope.now) c.in_ok-spot.field-0 c.in-Some.spot c.as_slice.result.now c.in-Some.is c.as_slice.ensures c.in_ok-spot.ensures)
