-- What a script does in a session.
use Rattle.std.specs.Prelude.{◌≡◌, ◌⊎◌, ◌&&◌, ℕ, Bool, false, List, [], ◌∷◌, ◌++◌}
use Rattle.std.specs.Prelude.{Option, Some, None, if◌then◌else◌}
use Rattle.pl_port.specs.pl_engine.Texts.{do_bodies}
use Rattle.pl_lex.specs.Characters.{Text}
use Rattle.pl_exec.specs.pl_world.Meaning.{Readings}
use Rattle.pl_exec.specs.pl_world.Trace.{Event, is_failed}
use Rattle.pl_reading.specs.declared.reading.Reading.{Reading}
use Rattle.pl_reading.specs.declared.reading.Reading.TheVariants.{Nothing, Refused, Spelled}
use Rattle.pl_transactions.specs.Before.{told}
use Rattle.pl_exec.specs.pl_world.Scripts.{events_of, outward, piece_went, script, session_of}
use Rattle.pl_exec.specs.pl_world.Sessions.{Session, Went}

-- ---- pieces

abbrev pub events_by : Option Went → List Event
events_by None = []
events_by (Some w) = events_of w

abbrev pub session_by : Option Went → Session → Session
session_by None s = s
session_by (Some w) s = session_of w

-- the events of a piece, and the session behind it
abbrev pub events_in : (steps : ℕ) → Reading → Session → List Event
events_in steps reading s = events_by (piece_went do_bodies steps reading s)

abbrev pub after : (steps : ℕ) → Reading → Session → Session
after steps reading s = session_by (piece_went do_bodies steps reading s) s

-- what a piece prints and commits before its end, where its own commit and its reply come
abbrev pub told_before : (steps : ℕ) → Reading → Session → List Event
told_before steps Nothing s = []
told_before steps (Refused state) s = []
told_before steps (Spelled c) s = outward (told do_bodies steps c s)

-- the first of these pieces, if there is one
abbrev pub told_next : (steps : ℕ) → List Reading → Session → List Event
told_next steps [] s = []
told_next steps (reading ∷ readings) s = told_before steps reading s

-- ---- scripts

-- The events of the pieces in order, each of which may take so many steps. Where it stops on errors,
-- the first error is the last event.
abbrev pub trace : (steps : ℕ) → (stops : Bool) → List Reading → Session → List Event
trace steps stops readings s = script do_bodies steps stops readings s

-- the session behind these pieces, none of which ends the script
abbrev pub behind : (steps : ℕ) → List Reading → Session → Session
behind steps [] s = s
behind steps (reading ∷ readings) s = behind steps readings (after steps reading s)

-- the session behind a script, or behind the piece at which it ended
abbrev pub ended_behind : (steps : ℕ) → (stops : Bool) → List Reading → Session → Session
ended_behind steps stops [] s = s
ended_behind steps stops (reading ∷ readings) s =
    if stops && is_failed (events_in steps reading s) then after steps reading s
    else ended_behind steps stops readings (after steps reading s)

-- these are the events of a script
abbrev pub IsTrace : Text → (steps : ℕ) → (stops : Bool) → Session → List Event → Type 0
IsTrace text steps stops s events =
    (readings : List Reading) × Readings text readings × (events ≡ trace steps stops readings s)

-- a script leads from the one session to the other
abbrev pub LeadsTo : Text → (steps : ℕ) → (stops : Bool) → (before after : Session) → Type 0
LeadsTo text steps stops s t = (readings : List Reading) × Readings text readings
    × (t ≡ ended_behind steps stops readings s)

-- These are the events of the first of a script's pieces, of some number of them; and, unless one of
-- them ends it, of the next one a front of what it prints and commits before its end.
pub record AreFront (text : Text) (steps : ℕ) (stops : Bool) (s : Session) (events : List Event)
    : Type 0 where
  pub first : List Reading
  pub others : List Reading
  pub read : Readings text (first ++ others)
  pub part : List Event
  pub left : List Event
  pub before : told_next steps others (behind steps first s) ≡ part ++ left
  pub are : events ≡ trace steps stops first s ++ part
  pub goes_on : (part ≡ []) ⊎ ((stops && is_failed (trace steps stops first s)) ≡ false)
