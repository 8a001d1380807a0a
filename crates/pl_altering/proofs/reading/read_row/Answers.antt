use Rattle.pl_altering.proofs.Over.{values_over}
use Rattle.pl_altering.proofs.reading.read_row.Goals as goal
use Rattle.pl_value.specs.Frames.{rows_of}

pub returns : goal.returns
returns g c = values_over c.args.command.now c.args.inside.now c.args.parts.now (rows_of c.args.frame.now) c.values.result c.args.calling.now c.values.new.caller c.values.ensures
