use Rattle.std.proofs.Common.{List, [], None}
use Rattle.pl_altering.proofs.Over.{goes_over, over, stops_over}
use Rattle.pl_altering.proofs.rows.add_row.Goals as goal
use Rattle.pl_value.specs.Frames.{Row, rows_of}
use Rattle.pl_value.specs.Meaning.{values}
use Rattle.pl_world.specs.Calls.{Within}
use Rattle.pl_world.specs.Changes.{meanings, writes}

pub returns-in-Ok : goal.returns-in-Ok
returns-in-Ok g c =
    let s = over c.args.command.now c.args.inside.now in
    goes_over c.args.command.now {A = Row} {B = List Row} (λ (x : Within). values (meanings s c.args.parts.now) [] (rows_of c.args.frame.now) x) (λ row x. writes s None row c.args.rows x)
    c.in-Ok.row c.write_row.result c.args.calling.now c.read_row.new.calling c.write_row.new.calling c.in-Ok.ensures c.write_row.ensures

pub returns-in-Err : goal.returns-in-Err
returns-in-Err g c =
    let s = over c.args.command.now c.args.inside.now in
    stops_over c.args.command.now {A = Row} {B = List Row} (λ (x : Within). values (meanings s c.args.parts.now) [] (rows_of c.args.frame.now) x) (λ row x. writes s None row c.args.rows x)
    c.in-Err.why c.args.calling.now c.read_row.new.calling c.in-Err.ensures
