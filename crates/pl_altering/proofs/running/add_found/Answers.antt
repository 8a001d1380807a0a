use Rattle.std.proofs.Common.{List, subst}
use Rattle.pl_altering.proofs.Over.{over}
use Rattle.pl_altering.proofs.running.add_found.Goals as goal
use Rattle.pl_altering.specs.Settings.{ReadsOver}
use Rattle.pl_value.specs.Frames.{Row}
use Rattle.pl_world.specs.Calls.{Within}
use Rattle.pl_world.specs.Changes.{adds_found}

pub returns : goal.returns
returns g c =
    subst (λ (row : Row). ReadsOver {A = List Row} c.args.command.now (λ (x : Within). adds_found (over c.args.command.now c.args.inside.now) c.args.parts.now row c.args.rows x) c.add_row.result c.args.calling.now c.add_row.new.calling) c.as_slice.ensures c.add_row.ensures
