use Rattle.pl_altering.proofs.Over.{passes_over}
use Rattle.pl_altering.proofs.reading.read_where.Goals as goal
use Rattle.pl_value.specs.Frames.{rows_of}

pub returns : goal.returns
returns g c = passes_over c.args.command.now c.args.inside.now c.args.condition.now (rows_of c.args.frame.now) c.passes_where.result c.args.calling.now c.passes_where.new.caller c.passes_where.ensures
