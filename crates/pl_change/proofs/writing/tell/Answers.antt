use Rattle.std.proofs.Common.{◌≡◌, ◌++◌, ◌∷◌, [], rules, subst}
use Rattle.pl_change.proofs.Turns.{same_reads, untold}
use Rattle.pl_change.specs.Changes.{Progress, progress, told}
use Rattle.pl_change.specs.Running.{reached, setting_of}
use Rattle.pl_value.specs.Answers.{Reads}
use Rattle.pl_value.specs.Frames.{Row}
use Rattle.pl_value.specs.Reading.{got}
use Rattle.pl_change.proofs.writing.tell.Goals as goal

pub returns-then-is_empty : goal.returns-then-is_empty
returns-then-is_empty g c objects tables =
    let s = setting_of g.C.Caller.calls (g.S.Subqueries.sub c.args.sub.now) objects c.args.command.now in
    let none : c.args.command.now.change.now.returning ≡ [] = search rules in
    same_reads {A = Progress} (told s c.args.row.now (progress tables c.args.rows) c.args.caller.now) (got (progress tables (c.args.rows ++ [] ∷ [])) c.args.caller.now) (reached c.add_shown.result tables) c.args.caller.now
    (untold s c.args.row.now (progress tables c.args.rows) c.args.caller.now none)
    (subst (λ (shown : Row). Reads {A = Progress} (got (progress tables (c.args.rows ++ shown ∷ [])) c.args.caller.now) (reached c.add_shown.result tables) c.args.caller.now) c.new-shown.ensures (c.add_shown.ensures tables c.args.caller.now))
