-- What the parts of a call do.
use Rattle.std.specs.Prelude.{◌≡◌, ◌⊎◌, ◌++◌, ℕ, List, [], ◌∷◌, Bool, Option, Some, None, Result, Ok, Err}
use Rattle.pl_base.specs.Image.{Image}
use Rattle.pl_disk.specs.Disk.{View, Rises}
use Rattle.pl_port.specs.pl_engine.Engines.{world}
use Rattle.pl_port.specs.pl_engine.declared.engine.Engine.{Engine}
use Rattle.pl_port.specs.pl_engine.declared.stop.Stop.{Stop}
use Rattle.pl_port.specs.pl_engine.declared.stop.Stop.TheVariants.{Disk, Say, Memory}
use Rattle.pl_exec.specs.pl_journal.Operation.{empty}
use Rattle.pl_keeper.specs.Batches.{Stored}
use Rattle.pl_keeper.specs.declared.head.Head.{Head}
use Rattle.pl_exec.specs.pl_world.Opening.{apply_batches, opens}
use Rattle.pl_exec.specs.pl_world.Trace.{Event, is_failed, last_commit, text}
use Rattle.pl_port.specs.Ports.{Takes}
use Rattle.pl_reading.specs.declared.reading.Reading.{Reading}
use Rattle.pl_session.specs.Endings.{Done, GoesOn}
use Rattle.pl_session.specs.State.{database_in, session_in}
use Rattle.pl_session.specs.Traces.{after, events_in, told_before}
use Rattle.pl_session.specs.declared.state.SessionState.{SessionState}
use Rattle.pl_transactions.specs.State.{Stands, session_at}
use Rattle.pl_transactions.specs.declared.transaction.Transaction.{Transaction}
use Rattle.pl_undo.specs.Database.{Database}
use Rattle.pl_exec.specs.pl_world.Scripts.{outward, reply_event}
use Rattle.pl_exec.specs.pl_world.Sessions.{Went, went}
use Rattle.pl_exec.specs.pl_world.World as world_events
use Rattle.pl_exec.specs.pl_world.declared.session.Reply.{Reply}

-- ---- why a part stopped

-- a front of these events is done
abbrev pub IsPart : (part whole : List Event) → Type 0
IsPart part whole = (left : List Event) × (whole ≡ part ++ left)

-- Why a step stopped that tells these events before its end: the disk failed, and what was printed
-- is a front of them; printing failed; or there was no memory, and a front of them is done.
abbrev pub StepCause : View → View → (told : List Event) → Database → Stop → Type 0
StepCause old new told db Disk = Rises old.disk_faults new.disk_faults
    × ((part : List Event) × IsPart part told × (old.told → new.printed ≡ old.printed ++ text part))
StepCause old new told db Say = Rises old.say_faults new.say_faults
StepCause old new told db Memory =
    (part : List Event) × IsPart part told × (old.told → Done old new part db)

-- why a reply wasn't printed
abbrev pub SayCause : View → View → Stop → Type 0
SayCause old new Say = Rises old.say_faults new.say_faults
SayCause old new why = ⊥

-- why the database wasn't written anew: the count of the disk's failures rose, or there was no memory
abbrev pub KeepCause : View → View → Stop → Type 0
KeepCause old new Disk = Rises old.disk_faults new.disk_faults
KeepCause old new Say = ⊥
KeepCause old new Memory = Unit {0}

-- ---- commands

-- A command went so, and all of it is done but for its reply.
pub record DoneBefore (w : Went) (answer : Reply) (behind : Transaction) (old new : Engine)
    (a b : View) (k l : Head) : Type 0 where
  pub events : List world_events.Event
  pub gives : w ≡ went (session_at behind new) answer events
  pub takes : Takes (outward events) (world old).last a b k l
  pub last : (world new).last ≡ last_commit (outward events) (world old).last
  pub stands : Stands behind new

-- the events of a reply
abbrev pub replies : Reply → List Event
replies answer = reply_event answer.fail answer ∷ []

-- ---- pieces

-- how a step ended by this reading: its events are done, and the answer is whether it failed; or it
-- stopped
abbrev pub StepEnd : (old new : View) (before state : SessionState) → (steps : ℕ) → Reading
    → Result Bool Stop → Type 0
StepEnd old new before state steps reading (Ok failed) =
    GoesOn old new before state (events_in steps reading (session_in before))
    × (session_in state ≡ after steps reading (session_in before))
    × (failed ≡ is_failed (events_in steps reading (session_in before)))
StepEnd old new before state steps reading (Err why) =
    StepCause old new (told_before steps reading (session_in before)) (database_in before) why

-- Why a piece of a script stopped: its step did; or all of it was done, and then writing the
-- database anew failed.
abbrev pub PieceCause : View → View → (told events : List Event) → Database → Stop → Type 0
PieceCause old new told events db why = StepCause old new told db why
    ⊎ (KeepCause old new why × (old.told → Done old new events db))

-- how a piece ended: as a step, or in writing the database anew
abbrev pub PieceEnd : (old new : View) (before state : SessionState) → (steps : ℕ) → Reading
    → Result Bool Stop → Type 0
PieceEnd old new before state steps reading (Ok failed) =
    StepEnd old new before state steps reading (Ok failed)
PieceEnd old new before state steps reading (Err why) =
    PieceCause old new (told_before steps reading (session_in before))
    (events_in steps reading (session_in before)) (database_in before) why

-- ---- stores

-- the files open to this database
abbrev pub OpensTo : Database → Image → Type 0
OpensTo db c = opens c ≡ Ok db

-- these batches lead to the database; or the one at this place is the first that doesn't apply
abbrev pub Reaches : List Stored → Database → (stopped : Option ℕ) → Type 0
Reaches list db None = apply_batches list empty ≡ Ok db
Reaches list db (Some at) = apply_batches list empty ≡ Err at
