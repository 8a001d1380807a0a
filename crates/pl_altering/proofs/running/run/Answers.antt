use Rattle.std.proofs.Common.{◌∙◌, ◌∷◌, List, Ok, [], subst, sym}
use Rattle.pl_altering.proofs.running.run.Goals as goal
use Rattle.pl_altering.specs.Entries.{entries}
use Rattle.pl_altering.specs.Settings.{ReadsOver}
use Rattle.pl_altering.proofs.Over.{over}
use Rattle.pl_value.specs.Frames.{Row}
use Rattle.pl_world.specs.Calls.{Within}
use Rattle.pl_world.specs.Changes.{does}

pub returns-in-Ok : goal.returns-in-Ok
returns-in-Ok g c =
    subst (λ (made : List Row). ReadsOver {A = List Row} c.args.command.now (λ (x : Within). does (over c.args.command.now c.args.inside.now) (c.args.command.now.variables.now ∷ []) (entries c.args.kept.items) c.args.command.now.change.now.what x) (Ok made) c.args.calling.now c.run_each.new.calling)
    (sym (c.from_vec.ensures ∙ c.into_vec.ensures)) c.in-Ok.ensures
