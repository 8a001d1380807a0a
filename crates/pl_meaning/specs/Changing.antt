-- What an INSERT, UPDATE or DELETE at the top of a script does, and what it answers: PostgreSQL
-- manual, "Data Manipulation", "Returning Data from Modified Rows".
use Rattle.std.specs.Prelude.{ℕ, List, [], ◌∷◌, ◌++◌, length, Ok, Err, if◌then◌else◌}
use Rattle.pl_change.specs.Changes.{Progress, changed}
use Rattle.pl_print.specs.Grids.{grid_bytes}
use Rattle.pl_print.specs.Tags.{tag_bytes}
use Rattle.pl_print.specs.declared.reply.Tag.{Tag}
use Rattle.pl_print.specs.declared.reply.Tag.TheVariants as tag
use Rattle.pl_resolved.specs.declared.query.Head.{Head}
use Rattle.pl_change.specs.pl_targets.Changes.{resolved_delete, resolved_insert, resolved_update}
use Rattle.pl_change.specs.pl_targets.declared.change.RChange.{RChange}
use Rattle.pl_change.specs.pl_targets.declared.change.RWhat.{RWhat}
use Rattle.pl_change.specs.pl_targets.declared.change.RWhat.TheVariants as what
use Rattle.pl_tree.specs.declared.command.Delete.{Delete}
use Rattle.pl_tree.specs.declared.command.Insert.{Insert}
use Rattle.pl_tree.specs.declared.command.Update.{Update}
use Rattle.pl_change.specs.pl_typing.Resolved.{Resolved}
use Rattle.pl_change.specs.pl_undo.Database.{Database, database}
use Rattle.pl_change.specs.pl_value.Frames.{Row}
use Rattle.pl_change.specs.pl_value.NoRoutines.{unknown}
use Rattle.pl_change.specs.pl_value.Reading.{Reading, got, fails}
use Rattle.pl_change.specs.pl_value.declared.world.NoRoutines.{NoRoutines}
use Rattle.pl_meaning.specs.Replies.{error_line, limit_exceeded}
use Rattle.pl_meaning.specs.Selection.{around, grid_of, has_long, no_variables}
use Rattle.pl_meaning.specs.Trace.{Event, Said, Failed, Committed}

-- ---- what is answered

-- with the number of rows
abbrev pub tag_of : RWhat → ℕ → Tag
tag_of (what.Insert rows) count = tag.Insert count
tag_of (what.Update columns values condition) count = tag.Update count
tag_of (what.Delete condition) count = tag.Delete count

-- the rows of RETURNING, where there is one
abbrev pub returned : List Head → List Row → List ℕ
returned [] rows = []
returned (head ∷ heads) rows = grid_bytes (grid_of (head ∷ heads) rows)

abbrev pub reply : RChange → List Row → List ℕ
reply change rows = returned change.heads rows ++ tag_bytes (tag_of change.what (length rows))

-- ---- what is done

-- what RETURNING gives can be printed, or else nothing is changed
abbrev pub commits : RChange → List Row → Database → List Event
commits change rows db =
    if has_long rows then Failed limit_exceeded ∷ []
    else Committed db ∷ Said (reply change rows) ∷ []

abbrev pub ended : RChange → Database → Reading NoRoutines Progress → List Event
ended change db (got p w) = commits change p.returned (database db.objects p.tables)
ended change db (fails state w) = Failed (error_line state) ∷ []

-- All names and types are resolved before any row is read.
abbrev pub changes : Resolved RChange → Database → List Event
changes (Ok change) db = ended change db (changed unknown change around db (record {}))
changes (Err state) db = Failed (error_line state) ∷ []

unfoldable pub inserts : Insert → Database → List Event
inserts insert db = changes (resolved_insert db.objects no_variables insert) db

unfoldable pub updates : Update → Database → List Event
updates update db = changes (resolved_update db.objects no_variables update) db

unfoldable pub deletes : Delete → Database → List Event
deletes delete db = changes (resolved_delete db.objects no_variables delete) db
