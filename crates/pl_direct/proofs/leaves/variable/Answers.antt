use Rattle.pl_direct.proofs.Named.{no_levels, one_variable, spotted}
use Rattle.pl_direct.proofs.leaves.variable.Goals as goal
use Rattle.pl_names.specs.Names.{around, reach}

pub returns-in-Some : goal.returns-in-Some
returns-in-Some c =
    let none = no_levels reach c.args.names.now.levels.now c.is_empty.result c.is_empty.ensures c.if-is_empty.true in
    one_variable c.args.name.now (around c.args.names.now) c.in-Some.spot.column c.in-Some.spot.seen.now.ty none
    (spotted c.args.name.now (around c.args.names.now) c.in_ok-spot.field-0 c.in-Some.spot c.as_slice.result.now c.in-Some.is c.as_slice.ensures c.in_ok-spot.ensures)
