use Rattle.std.proofs.Common.{◌∷◌, []}
use Rattle.pl_altering.proofs.Over.{rows_over}
use Rattle.pl_altering.proofs.running.find_rows.Goals as goal

pub returns : goal.returns
returns g c = rows_over c.args.command.now c.args.inside.now c.args.query (c.args.command.now.variables.now ∷ []) c.rows.result c.args.calling.now c.rows.new.caller c.rows.ensures
