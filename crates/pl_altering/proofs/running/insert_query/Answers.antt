use Rattle.std.proofs.Common.{◌∷◌, List, [], subst}
use Rattle.pl_altering.proofs.Over.{goes_over, over, stops_over}
use Rattle.pl_altering.proofs.running.insert_query.Goals as goal
use Rattle.pl_altering.specs.Settings.{ReadsOver}
use Rattle.pl_query.specs.Rows.{in_turn}
use Rattle.pl_value.specs.Frames.{Row}
use Rattle.pl_world.specs.Calls.{Within}
use Rattle.pl_world.specs.Changes.{adds_found}

pub returns-in-Ok : goal.returns-in-Ok
returns-in-Ok g c =
    let s = over c.args.command.now c.args.inside.now in
    goes_over c.args.command.now {A = List Row} {B = List Row} (λ (x : Within). s.inner c.args.query (c.args.command.now.variables.now ∷ []) x) (λ found x. in_turn (adds_found s c.args.parts.now) found [] x)
    c.in-Ok.found c.insert_found.result c.args.calling.now c.find_rows.new.calling c.insert_found.new.calling c.in-Ok.ensures
    (subst (λ (found : List Row). ReadsOver {A = List Row} c.args.command.now (λ (x : Within). in_turn (adds_found s c.args.parts.now) found [] x) c.insert_found.result c.find_rows.new.calling c.insert_found.new.calling) c.as_slice.ensures c.insert_found.ensures)

pub returns-in-Err : goal.returns-in-Err
returns-in-Err g c =
    let s = over c.args.command.now c.args.inside.now in
    stops_over c.args.command.now {A = List Row} {B = List Row} (λ (x : Within). s.inner c.args.query (c.args.command.now.variables.now ∷ []) x) (λ found x. in_turn (adds_found s c.args.parts.now) found [] x)
    c.in-Err.why c.args.calling.now c.find_rows.new.calling c.in-Err.ensures
