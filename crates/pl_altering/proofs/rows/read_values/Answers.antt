use Rattle.std.proofs.Common.{Option, subst}
use Rattle.pl_altering.proofs.Over.{over}
use Rattle.pl_altering.proofs.rows.read_values.Goals as goal
use Rattle.pl_altering.specs.Settings.{ReadsOver}
use Rattle.pl_value.specs.Frames.{Row}
use Rattle.pl_world.specs.Calls.{Within}
use Rattle.pl_world.specs.Changes.{read_if}

pub returns : goal.returns
returns g c =
    let s = over c.args.command.now c.args.inside.now in
    subst (λ (row : Row). ReadsOver {A = Option Row} c.args.command.now (λ (x : Within). read_if s c.args.condition.now c.args.parts.now row x) c.read_if.result c.args.calling.now c.read_if.new.calling) c.as_slice.ensures c.read_if.ensures
