use Rattle.std.proofs.Common.{List, Option}
use Rattle.pl_altering.proofs.Over.{goes_over, over, stops_over}
use Rattle.pl_altering.proofs.rows.update_row.Goals as goal
use Rattle.pl_altering.specs.Entries.{entry_of}
use Rattle.pl_value.specs.Frames.{Row}
use Rattle.pl_world.specs.Calls.{Within}
use Rattle.pl_world.specs.Changes.{read_if, sets}

pub returns-in-Ok : goal.returns-in-Ok
returns-in-Ok g c =
    let s = over c.args.command.now c.args.inside.now in
    goes_over c.args.command.now {A = Option Row} {B = List Row} (λ (x : Within). read_if s c.args.condition.now c.args.parts.now c.args.entry.row x) (λ vs x. sets s c.args.columns.now (entry_of c.args.entry) vs c.args.rows x)
    c.in-Ok.values c.set_row.result c.args.calling.now c.read_values.new.calling c.set_row.new.calling c.in-Ok.ensures c.set_row.ensures

pub returns-in-Err : goal.returns-in-Err
returns-in-Err g c =
    let s = over c.args.command.now c.args.inside.now in
    stops_over c.args.command.now {A = Option Row} {B = List Row} (λ (x : Within). read_if s c.args.condition.now c.args.parts.now c.args.entry.row x) (λ vs x. sets s c.args.columns.now (entry_of c.args.entry) vs c.args.rows x)
    c.in-Err.why c.args.calling.now c.read_values.new.calling c.in-Err.ensures
