use Rattle.std.proofs.Common.{◌++◌, ◌∷◌, [], refl}
use Rattle.pl_change.specs.Changes.{Progress, progress, returning}
use Rattle.pl_change.specs.Running.{reached, setting_of}
use Rattle.pl_value.specs.Frames.{Row}
use Rattle.pl_value.specs.Reading.{got}
use Rattle.pl_value.specs.Steps.{goes, stops}
use Rattle.pl_change.proofs.writing.tell_shown.Goals as goal

pub returns-in-Ok : goal.returns-in-Ok
returns-in-Ok g c objects tables =
    goes {A = Row} {B = Progress} _ (returning (setting_of g.C.Caller.calls (g.S.Subqueries.sub c.args.sub.now) objects c.args.command.now) c.args.row.now c.args.caller.now)
    (λ shown w. got (progress tables (c.args.rows ++ shown ∷ [])) w) c.in-Ok.shown c.show.new.caller (reached c.add_shown.result tables) c.show.new.caller refl
    (c.in-Ok.ensures objects) (c.add_shown.ensures tables c.show.new.caller)

pub returns-in-Err : goal.returns-in-Err
returns-in-Err g c objects tables =
    stops {A = Row} {B = Progress} _ (returning (setting_of g.C.Caller.calls (g.S.Subqueries.sub c.args.sub.now) objects c.args.command.now) c.args.row.now c.args.caller.now)
    (λ shown w. got (progress tables (c.args.rows ++ shown ∷ [])) w) c.in-Err.why c.show.new.caller refl (c.in-Err.ensures objects)
