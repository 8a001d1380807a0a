-- What a script does: the events of its commands in order, as the program's promises speak of them.
use Rattle.std.specs.Prelude.{ℕ, ◌&&◌, Bool, if◌then◌else◌, List, [], ◌∷◌, ◌++◌}
use Rattle.std.specs.Prelude.{Option, Some, None}
use Rattle.pl_base.specs.declared.fail.Fail.{Fail}
use Rattle.pl_meaning.specs.Trace as trace
use Rattle.pl_print.specs.Grids.{grid_bytes}
use Rattle.pl_print.specs.Messages.{fail_bytes}
use Rattle.pl_print.specs.Tags.{tag_bytes}
use Rattle.pl_print.specs.declared.reply.Grid.{Grid}
use Rattle.pl_print.specs.declared.reply.Tag.{Tag}
use Rattle.pl_meaning.specs.pl_reading.declared.reading.Reading.{Reading}
use Rattle.pl_meaning.specs.pl_reading.declared.reading.Reading.TheVariants.{Nothing, Refused, Spelled}
use Rattle.pl_world.specs.Running.{Bodies}
use Rattle.pl_world.specs.Sessions.{Session, Went, does_command, refused, went}
use Rattle.pl_world.specs.World.{Began, Committed, Event, Raised, Said, Stepped}
use Rattle.pl_world.specs.declared.session.Reply.{Reply}

-- what is printed and committed of these events
abbrev pub outward : List Event → List trace.Event
outward [] = []
outward (Stepped at ∷ es) = outward es
outward (Raised f ∷ es) = outward es
outward (Began what ∷ es) = outward es
outward (Said lines ∷ es) = trace.Said lines ∷ outward es
outward (Committed db ∷ es) = trace.Committed db ∷ outward es

-- the lines of a reply
abbrev pub grid_lines : Option Grid → List ℕ
grid_lines None = []
grid_lines (Some grid) = grid_bytes grid

abbrev pub tag_lines : Option Tag → List ℕ
tag_lines None = []
tag_lines (Some tag) = tag_bytes tag

abbrev pub reply_event : Option Fail → Reply → trace.Event
reply_event (Some f) answer = trace.Failed (fail_bytes f)
reply_event None answer = trace.Said (grid_lines answer.grid ++ tag_lines answer.tag)

-- what a command printed and committed, and then its reply
abbrev pub events_of : Went → List trace.Event
events_of (went s answer es) = outward es ++ reply_event answer.fail answer ∷ []

abbrev pub session_of : Went → Session
session_of (went s answer es) = s

-- a piece of the script, by what it is read as
abbrev pub piece_went : Bodies → ℕ → Reading → Session → Option Went
piece_went bodies budget Nothing s = None
piece_went bodies budget (Refused state) s = Some (refused state s)
piece_went bodies budget (Spelled c) s = Some (does_command bodies budget c s)

-- what goes on behind a piece, unless it failed and the script stops on errors
abbrev pub goes_on : Option Went → (stops : Bool) → (Session → List trace.Event) → Session
    → List trace.Event
goes_on None stops k s = k s
goes_on (Some w) stops k s =
    events_of w ++ (if stops && trace.is_failed (events_of w) then [] else k (session_of w))

-- The events of the pieces in order. Where it stops on errors, the first error is the last event.
unfoldable pub script : Bodies → ℕ → (stops : Bool) → List Reading → Session → List trace.Event
script bodies budget stops [] s = []
script bodies budget stops (x ∷ xs) s =
    goes_on (piece_went bodies budget x s) stops (λ s. script bodies budget stops xs s) s
