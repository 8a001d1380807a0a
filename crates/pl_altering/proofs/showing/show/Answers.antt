use Rattle.std.proofs.Common.{◌++◌, ◌∷◌, Err, List, Ok, [], subst}
use Rattle.pl_altering.proofs.Over.{goes_over, over, same_over, stops_over}
use Rattle.pl_altering.proofs.AsFound.{shows_none}
use Rattle.pl_altering.proofs.showing.show.Goals as goal
use Rattle.pl_altering.specs.Settings.{ReadsOver}
use Rattle.pl_resolved.specs.declared.expression.RExpr.{RExpr}
use Rattle.pl_value.specs.Frames.{Row}
use Rattle.pl_value.specs.Meaning.{values}
use Rattle.pl_value.specs.Reading.{got}
use Rattle.pl_world.specs.Calls.{Within}
use Rattle.pl_world.specs.Changes.{behind_row, meanings, shown}

pub returns-in-Ok : goal.returns-in-Ok
returns-in-Ok g c =
    let s = over c.args.command.now c.args.inside.now in
    goes_over c.args.command.now {A = Row} {B = List Row} (λ (x : Within). values (meanings s c.args.command.now.change.now.returning) [] (behind_row s c.args.row.now) x) (λ shown x. got (c.args.rows ++ shown ∷ []) x)
    c.in-Ok.shown c.add_shown-in-Ok.result c.args.calling.now c.read_row.new.calling c.read_row.new.calling
    (subst (λ (list : List RExpr). ReadsOver {A = Row} c.args.command.now (λ (x : Within). values (meanings s list) [] (behind_row s c.args.row.now) x) (Ok c.in-Ok.shown) c.args.calling.now c.read_row.new.calling) c.as_slice-returning.ensures c.in-Ok.ensures) (c.add_shown-in-Ok.ensures c.args.command.now c.read_row.new.calling)

pub returns-in-Err : goal.returns-in-Err
returns-in-Err g c =
    let s = over c.args.command.now c.args.inside.now in
    stops_over c.args.command.now {A = Row} {B = List Row} (λ (x : Within). values (meanings s c.args.command.now.change.now.returning) [] (behind_row s c.args.row.now) x) (λ shown x. got (c.args.rows ++ shown ∷ []) x)
    c.in-Err.why c.args.calling.now c.read_row.new.calling
    (subst (λ (list : List RExpr). ReadsOver {A = Row} c.args.command.now (λ (x : Within). values (meanings s list) [] (behind_row s c.args.row.now) x) (Err c.in-Err.why) c.args.calling.now c.read_row.new.calling) c.as_slice-returning.ensures c.in-Err.ensures)

pub returns-then-is_empty : goal.returns-then-is_empty
returns-then-is_empty g c =
    let s = over c.args.command.now c.args.inside.now in
    same_over c.args.command.now {A = List Row} (λ (x : Within). shown s c.args.row.now c.args.rows x) (λ (x : Within). got (c.args.rows ++ [] ∷ []) x) c.add_shown.result c.args.calling.now c.args.calling.now
    (shows_none s (c.is_empty.ensures.0 c.if-is_empty.true) c.args.row.now c.args.rows)
    (subst (λ (r : Row). ReadsOver {A = List Row} c.args.command.now (λ (x : Within). got (c.args.rows ++ r ∷ []) x) c.add_shown.result c.args.calling.now c.args.calling.now) c.new.ensures (c.add_shown.ensures c.args.command.now c.args.calling.now))
