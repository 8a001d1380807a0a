-- How a call of a session ends.
use Rattle.std.specs.Prelude.{◌≡◌, ◌++◌, ℕ, List, Bool, true, false, Some, Ok}
use Rattle.pl_base.specs.Image.{Image}
use Rattle.pl_disk.specs.Disk.{View, Rises}
use Rattle.pl_port.specs.pl_engine.declared.stop.Stop.{Stop}
use Rattle.pl_port.specs.pl_engine.declared.stop.Stop.TheVariants.{Disk, Say, Memory}
use Rattle.pl_lex.specs.Characters.{Text}
use Rattle.pl_undo.specs.Database.{Database}
use Rattle.pl_exec.specs.pl_world.Opening.{opens}
use Rattle.pl_exec.specs.pl_world.Trace.{Event, text, last_commit}
pub use Rattle.pl_port.specs.Stores.{RunsAlong}
use Rattle.pl_session.specs.State.{database_in, session_in, IsReady}
use Rattle.pl_session.specs.Traces.{AreFront, IsTrace}
use Rattle.pl_session.specs.declared.halt.Ended.{Ended}
use Rattle.pl_session.specs.declared.halt.Ended.TheVariants.{Whole, AtError}
use Rattle.pl_session.specs.declared.halt.Halt.{Halt}
use Rattle.pl_session.specs.declared.halt.Halt.TheVariants.{Closed, Stopped}
use Rattle.pl_session.specs.declared.halt.Outcome.{Outcome}
use Rattle.pl_session.specs.declared.halt.Outcome.TheVariants.{Fine, Errored}
use Rattle.pl_session.specs.declared.state.SessionState.{SessionState}
use Rattle.pl_exec.specs.pl_world.Sessions.{Session}

-- this holds of the events of a script from a session on
abbrev pub OfTrace : Text → (steps : ℕ) → (stops : Bool) → Session → (List Event → Type 0) → Type 0
OfTrace script steps stops s P =
    (events : List Event) → IsTrace script steps stops s events → P events

-- These events are done, and no other: all that they say is printed, and each crash leaves files that
-- open to their last commit.
pub record Done (old new : View) (events : List Event) (db : Database) : Type 0 where
  pub printed : new.printed ≡ old.printed ++ text events
  pub opens_to : (image : Image) → new.may_leave image → opens image ≡ Ok (last_commit events db)

-- All that was printed is the text of the first of a script's pieces, of some number of them, and of
-- whole lines that the next one prints before its end: no reply is printed in part.
abbrev pub PrintsWhole : (old new : View) → Text → (steps : ℕ) → (stops : Bool) → Session → Type 0
PrintsWhole old new script steps stops s = (events : List Event)
    × AreFront script steps stops s events × (old.told → new.printed ≡ old.printed ++ text events)

-- After Ok: the events are printed to the end, and the session is ready with the database of their
-- last commit.
pub record GoesOn (old new : View) (before after : SessionState) (events : List Event) : Type 0 where
  pub ready : IsReady new after
  pub database : database_in after ≡ last_commit events (database_in before)
  pub printed : old.told → new.printed ≡ old.printed ++ text events

-- Why a session stopped, a line a reason: the count of the disk's failures rose, and no reply is
-- printed in part; that of the output's did; there was no memory, and then a whole number of the
-- script's pieces is done, and of the next one some of what it does before its end.
abbrev pub StopsBy : View → View → Text → (steps : ℕ) → (stops : Bool) → Session → Stop → Type 0
StopsBy old new script steps stops s Disk =
    Rises old.disk_faults new.disk_faults × PrintsWhole old new script steps stops s
StopsBy old new script steps stops s Say = Rises old.say_faults new.say_faults
StopsBy old new script steps stops s Memory = (events : List Event)
    × AreFront script steps stops s events × (old.told → Done old new events s.world.last)

-- Why a call did not run to its end, a line an ending: the session had stopped before, and nothing
-- was done; or it stopped now, and is closed from then on.
abbrev pub HasCause : {H : Type 0} → (view : H → View) → (old new : H)
    → (before after : SessionState) → Text → (steps : ℕ) → (stops : Bool) → Halt → Type 0
HasCause view old new before after script steps stops (Closed why) =
    (before.failed ≡ Some why) × (new ≡ old) × (after ≡ before)
HasCause view old new before after script steps stops (Stopped why) = (after.failed ≡ Some why)
    × StopsBy (view old) (view new) script steps stops (session_in before) why

-- a command ended so, by whether it failed
abbrev pub outcome_of : Bool → Outcome
outcome_of true = Errored
outcome_of false = Fine

-- a script ended so, by whether it stopped at an error
abbrev pub ended_of : Bool → Ended
ended_of true = AtError
ended_of false = Whole
