-- What a script does, as the list of its events: each command that may change something is a commit
-- and then its reply, a SELECT is its rows alone, and each command that fails is its error alone.
use Rattle.std.specs.Prelude.{◌≡◌, ◌&&◌, List, [], ◌∷◌, ◌++◌, Bool, Option, Some, None, Ok, Err, if◌then◌else◌}
use Rattle.pl_base.specs.declared.state.State.{State}
use Rattle.pl_change.specs.Definitions.{Behind, redefined}
use Rattle.pl_lex.specs.Characters.{Text}
use Rattle.pl_lex.specs.Lexemes.{Commands}
use Rattle.pl_lex.specs.declared.token.Piece.{Piece}
use Rattle.pl_tree.specs.declared.command.Command.{Command}
use Rattle.pl_tree.specs.declared.command.Command.TheVariants as command
use Rattle.pl_tree.specs.declared.command.Definition.{Definition}
use Rattle.pl_tree.specs.declared.command.Definition.TheVariants as definition
use Rattle.pl_tree.specs.declared.command.RoutineKind.{RoutineKind}
use Rattle.pl_tree.specs.declared.command.RoutineKind.TheVariants.{Function, Procedure}
use Rattle.pl_print.specs.Tags.{tag_bytes}
use Rattle.pl_print.specs.declared.reply.Tag.{Tag}
use Rattle.pl_print.specs.declared.reply.Tag.TheVariants as tag
use Rattle.pl_change.specs.pl_reading.Defining.{stored_by}
use Rattle.pl_change.specs.pl_reading.Reading.{IsPieceRead}
use Rattle.pl_change.specs.pl_reading.declared.reading.Reading.{Reading}
use Rattle.pl_change.specs.pl_reading.declared.reading.Reading.TheVariants.{Nothing, Refused, Spelled}
use Rattle.pl_change.specs.pl_typing.Resolved.{Resolved}
use Rattle.pl_change.specs.pl_undo.Database.{Database}
use Rattle.pl_meaning.specs.Changing.{deletes, inserts, updates}
use Rattle.pl_meaning.specs.Replies.{error_line, not_supported, notice_line}
use Rattle.pl_meaning.specs.Selection.{selects}
use Rattle.pl_meaning.specs.Trace.{Event, Said, Failed, Committed, is_failed, last_commit}

-- ---- one command

abbrev pub created : RoutineKind → Tag
created Function = tag.CreateFunction
created Procedure = tag.CreateProcedure

abbrev pub dropped : RoutineKind → Tag
dropped Function = tag.DropFunction
dropped Procedure = tag.DropProcedure

-- the tag of a definition
abbrev pub tag_of : Definition → Tag
tag_of (definition.CreateTable table) = tag.CreateTable
tag_of (definition.CreateRoutine routine) = created routine.kind
tag_of (definition.CreateTrigger trigger) = tag.CreateTrigger
tag_of (definition.DropTable if_exists name) = tag.DropTable
tag_of (definition.DropRoutine kind if_exists name types) = dropped kind
tag_of (definition.DropTrigger if_exists name table) = tag.DropTrigger

-- the database is committed and then the tag printed; where it stays as it is, a notice and the tag
abbrev pub done : Tag → Option State → Database → List Event
done tag None db = Committed db ∷ Said (tag_bytes tag) ∷ []
done tag (Some state) db = Said (notice_line state ++ tag_bytes tag) ∷ []

abbrev pub redefines : Tag → Resolved Behind → List Event
redefines tag (Ok b) = done tag b.notice b.database
redefines tag (Err state) = Failed (error_line state) ∷ []

-- a definition whose text can be stored
abbrev pub defines : Option Definition → Text → Database → List Event
defines None source db = Failed not_supported ∷ []
defines (Some definition) source db = redefines (tag_of definition) (redefined definition source db)

-- No other commands run.
abbrev pub command_events : Command → Database → List Event
command_events (command.Define definition source) db = defines (stored_by definition source) source db
command_events (command.Query query) db = selects query db
command_events (command.Insert insert) db = inserts insert db
command_events (command.Update update) db = updates update db
command_events (command.Delete delete) db = deletes delete db
command_events (command.Do language body) db = Failed not_supported ∷ []
command_events (command.Call name arguments) db = Failed not_supported ∷ []
command_events command.Begin db = Failed not_supported ∷ []
command_events command.StartTransaction db = Failed not_supported ∷ []
command_events command.Commit db = Failed not_supported ∷ []
command_events command.Rollback db = Failed not_supported ∷ []
command_events (command.Savepoint name) db = Failed not_supported ∷ []
command_events (command.Release name) db = Failed not_supported ∷ []
command_events (command.RollbackTo name) db = Failed not_supported ∷ []

-- a piece of a script by what it is read as
abbrev pub events : Reading → Database → List Event
events Nothing db = []
events (Refused state) db = Failed (error_line state) ∷ []
events (Spelled command) db = command_events command db

-- ---- a script

-- The events of the pieces in order, from a database on. Where it stops on errors, the first error is the last event.
abbrev pub trace : (stops : Bool) → List Reading → Database → List Event
trace stops [] db = []
trace stops (reading ∷ readings) db =
    events reading db ++ (if stops && is_failed (events reading db) then [] else trace stops readings (last_commit (events reading db) db))

-- each piece is read so
abbrev pub AreRead : Text → List Piece → List Reading → Type 0
AreRead text [] [] = Unit {0}
AreRead text (piece ∷ pieces) (reading ∷ readings) = IsPieceRead text piece reading × AreRead text pieces readings
AreRead text pieces readings = ⊥

-- the readings of a script, which is cut at each `;` that is a token
abbrev pub Readings : Text → List Reading → Type 0
Readings text readings = (pieces : List Piece) × Commands pieces text × AreRead text pieces readings

-- these are the events of the first of a script's pieces, of some number of them
abbrev pub AreOfFirst : Text → (stops : Bool) → Database → List Event → Type 0
AreOfFirst text stops db events = (first others : List Reading) × Readings text (first ++ others) × (events ≡ trace stops first db)

-- these are the events of a script
abbrev pub IsTrace : Text → (stops : Bool) → Database → List Event → Type 0
IsTrace text stops db events = (readings : List Reading) × Readings text readings × (events ≡ trace stops readings db)
