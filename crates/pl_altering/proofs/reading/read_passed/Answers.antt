use Rattle.pl_altering.proofs.Over.{not_passed, passed_over, passed_stops}
use Rattle.pl_altering.proofs.reading.read_passed.Goals as goal
use Rattle.pl_value.specs.Frames.{rows_of}

pub returns-in-Ok : goal.returns-in-Ok
returns-in-Ok g c = passed_over c.args.command.now c.args.inside.now c.args.parts.now (rows_of c.args.frame.now) c.args.passed c.in-Ok.row c.args.calling.now c.read_row.new.calling c.if-passed.true c.in-Ok.ensures

pub returns-in-Err : goal.returns-in-Err
returns-in-Err g c = passed_stops c.args.command.now c.args.inside.now c.args.parts.now (rows_of c.args.frame.now) c.args.passed c.in-Err.why c.args.calling.now c.read_row.new.calling c.if-passed.true c.in-Err.ensures

pub returns-else-passed : goal.returns-else-passed
returns-else-passed g c = not_passed c.args.command.now c.args.inside.now c.args.parts.now (rows_of c.args.frame.now) c.args.passed c.args.calling.now c.if-passed.false
