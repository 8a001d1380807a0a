-- What a change does over copies of what its rows read.
use Rattle.std.proofs.Common.{◌≡◌, ◌∙◌, List, [], ◌∷◌, Result, ap, refl, subst}
use Rattle.pl_altering.proofs.Left.{enough}
use Rattle.pl_altering.specs.Ends.{done_from}
use Rattle.pl_altering.specs.Entries.{AreEnough}
use Rattle.pl_altering.specs.Settings.{ReadsOver, setting_over}
use Rattle.pl_altering.specs.declared.command.Command.{Command}
use Rattle.pl_querying.specs.pl_calling.Standing.{Standing, fresh, keep}
use Rattle.pl_world.specs.pl_change.Running.{copied}
use Rattle.pl_world.specs.pl_change.declared.at_start.Copies.{Copies}
use Rattle.pl_querying.specs.pl_engine.Texts.{do_bodies}
use Rattle.pl_natural.specs.Kept.{ReadsKept}
use Rattle.pl_query.specs.Query.{rows}
use Rattle.pl_query.specs.declared.within.Queries.{Queries}
use Rattle.pl_value.specs.Frames.{Row}
use Rattle.pl_value.specs.Meaning.{Sub}
use Rattle.pl_value.specs.Reading.{Reading}
use Rattle.pl_value.specs.declared.operand.Unsettled.{Unsettled}
use Rattle.pl_world.specs.Calls.{Within, calls}
use Rattle.pl_world.specs.Changes.{Entry, Setting, does, setting}
use Rattle.pl_world.specs.Expressions.{begun, inner}
use Rattle.pl_world.specs.Running.{Runner}
use Rattle.pl_world.specs.Statements.{runner_for}
use Rattle.pl_world.specs.Variables.{row_of}
use Rattle.pl_world.specs.World.{World}

module _ (command : Command) (inside : Queries Copies) (w : World) where
  abbrev runner : Runner
  runner = runner_for do_bodies command.room

  module _ (variables : command.variables.now ≡ row_of w.frame) (same : rows (calls runner command.at) inside.list.now (copied inside.tables.now.list.items) ≡ inner runner command.at command.change.now.queries w) where
    setting_is : setting_over command inside ≡ setting runner command.at command.change.now w
    setting_is =
        ap (λ (sub : Sub Within). record (setting_over command inside) { inner = sub }) same
        ∙ ap (λ (row : Row). record (setting runner command.at command.change.now w) { around = row ∷ [] ∷ [] }) variables

    -- the change was read, from its beginning
    pub changed_over : (kept : List Entry) (answer : Result (List Row) Unsettled) (new : Standing) → AreEnough command.change.now (command.variables.now ∷ [] ∷ []) w.database.tables kept
        → ReadsOver command (λ (x : Within). does (setting_over command inside) (command.variables.now ∷ []) kept command.change.now.what x) answer (fresh command.at command.room w) new
        → ReadsKept (keep command.at command.room) (done_from runner command.at command.change.now w) answer new
    changed_over kept answer new are reads =
        subst (λ (r : Reading Within (List Row)). ReadsKept (keep command.at command.room) r answer new)
        (ap (λ (s : Setting). does s (command.variables.now ∷ []) kept command.change.now.what (begun w)) setting_is
        ∙ (ap (λ (row : Row). does (setting runner command.at command.change.now w) (row ∷ []) kept command.change.now.what (begun w)) variables
        ∙ enough (setting runner command.at command.change.now w) command.change.now.table w.database.tables kept (begun w) (row_of w.frame ∷ []) command.change.now.what
        (subst (λ (row : Row). AreEnough command.change.now (row ∷ [] ∷ []) w.database.tables kept) variables are)))
        (reads (begun w) refl)
