-- What a run of the program begins with, why it ends as it does, and what it leaves.
use Rattle.std.specs.Prelude.{◌≡◌, ◌⊎◌, ◌&&◌, ℕ, List, [], ◌∷◌, ◌++◌, Bool, true, false, Option, Some, None, Ok, Err}
use Rattle.pl_base.specs.Image.{Image}
use Rattle.pl_disk.specs.Disk.{View, IsPrefix, Rises, Untouched}
use Rattle.pl_keeper.specs.Batches.{Damage}
use Rattle.pl_undo.specs.Database.{Database}
use Rattle.pl_session.specs.pl_world.Opening.{opens}
use Rattle.pl_session.specs.pl_world.Trace.{Event, Said, is_failed}
use Rattle.pl_session.specs.Endings.{Done}
use Rattle.pl_session.specs.Traces.{AreFront, IsTrace, LeadsTo}
use Rattle.pl_session.specs.pl_world.Sessions.{Session, new_session}
use Rattle.pl_session.specs.pl_world.declared.session.Mode.TheVariants as mode
use Rattle.pl_cli.specs.Line.{Asked, Word, asked}
use Rattle.pl_cli.specs.Printed.{refusal_line}
use Rattle.pl_cli.specs.Script.{IsRefusedAt, IsScript, script_text}
use Rattle.pl_cli.specs.declared.ending.Ending.{Ending}
use Rattle.pl_cli.specs.declared.ending.Ending.TheVariants.{Whole, Usage, AtError, Disk, Source, Say, Damaged, Refused, Memory}

-- These events are due of a script: its own, or the one line of a script that is refused.
abbrev pub IsDue : (script : List ℕ) (steps : ℕ) (stops : Bool) → Database → List Event → Type 0
IsDue script steps stops db events =
    ((at : ℕ) × IsRefusedAt script at × (events ≡ Said (refusal_line at) ∷ []))
    ⊎ (IsScript script × IsTrace (script_text script) steps stops (new_session db) events)

-- What a run begins with: a host that tells its contents, whose files open to this database, a valid line, and a script of which
-- these events are due.
pub record Over (words : List Word) (view : View) (left : Option (List ℕ))
    (db : Database) (events : List Event) : Type 0 where
  pub told : view.told
  pub opened : opens view.seen ≡ Ok db
  pub line : Asked
  pub asks : asked words ≡ Some line
  pub script : List ℕ
  pub reads : left ≡ Some script
  pub due : IsDue script line.steps line.stops_on_error db events

-- behind its script the session is in no transaction block
abbrev pub EndsIdle : {words : List Word} {left : Option (List ℕ)} {db : Database}
    {events : List Event} {old : View} → Over words old left db events → Type 0
EndsIdle {db = db} over = (s : Session) → LeadsTo (script_text over.script) over.line.steps
    over.line.stops_on_error (new_session db) s → s.mode ≡ mode.Idle

-- ---- why it ends so

abbrev pub IsLine : List Word → Type 0
IsLine words = (line : Asked) × (asked words ≡ Some line)

-- the files open to some database
abbrev pub IsStored : View → Type 0
IsStored view = view.told → (db : Database) × (opens view.seen ≡ Ok db)

-- what is left of the source is a script
abbrev pub IsWhole : Option (List ℕ) → Type 0
IsWhole left = (script : List ℕ) → left ≡ Some script → IsScript script

-- whether the line asks to stop at errors, and a command fails
abbrev pub HasError : List Word → View → Option (List ℕ) → Bool → Type 0
HasError words view left has =
    (db : Database) (events : List Event) (over : Over words view left db events)
    → (over.line.stops_on_error && is_failed events) ≡ has

-- Why a run ends so, a line an ending: what its words, its store and its script were, and which device's count of failures rose.
abbrev pub HasCause : Ending → List Word → (old new : View) → (left : Option (List ℕ))
    → (before after : ℕ) → Type 0
HasCause Whole words old new left before after =
    IsLine words × IsStored old × IsWhole left × HasError words old left false
HasCause AtError words old new left before after =
    IsLine words × IsStored old × IsWhole left × HasError words old left true
HasCause Usage words old new left before after = asked words ≡ None
HasCause Disk words old new left before after = IsLine words × Rises old.disk_faults new.disk_faults
HasCause Source words old new left before after = IsLine words × IsStored old × Rises before after
HasCause Say words old new left before after = Rises old.say_faults new.say_faults
HasCause Damaged words old new left before after =
    IsLine words × (old.told → (damage : Damage) × (opens old.seen ≡ Err damage))
HasCause Refused words old new left before after =
    IsLine words × IsStored old
    × ((script : List ℕ) → left ≡ Some script → (at : ℕ) × IsRefusedAt script at)
HasCause Memory words old new left before after =
    IsLine words ⊎ (old.told → new.printed ≡ old.printed)

-- ---- what it leaves

-- Nothing is done yet, and no sync of the run succeeded: a crash leaves files that one before might have left, or that open to the
-- same database.
pub record NotBegun (old new : View) (db : Database) : Type 0 where
  pub synced : new.synced ≡ old.synced
  pub printed : new.printed ≡ old.printed
  pub images : (image : Image) → new.may_leave image → old.may_leave image ⊎ (opens image ≡ Ok db)

-- A whole number of the script's commands is done, and of the next one some of what it does before
-- its end.
abbrev pub IsBetween : {words : List Word} {left : Option (List ℕ)} {db : Database}
    {events : List Event} {old : View} → Over words old left db events → View → Type 0
IsBetween {db = db} {old = old} over new = NotBegun old new db
    ⊎ ((first : List Event) × AreFront (script_text over.script) over.line.steps
    over.line.stops_on_error (new_session db) first × Done old new first db)

-- The files are left alone, and at each moment a front of this line is printed, which is all that is.
pub record OnlySays (line : List ℕ) (old new : View) : Type 0 where
  pub untouched : Untouched old new
  pub front : (printed : List ℕ) (image : Image) → new.since old.moment printed image
      → (said : List ℕ) × IsPrefix said line × (printed ≡ old.printed ++ said)

-- ---- the names that it attaches

-- just this name was attached, behind those from before
abbrev pub Attaches : List ℕ → (old new : List (List ℕ) → Type 0) → Type 0
Attaches name old new = (names : List (List ℕ)) → old names → new (names ++ name ∷ [])

-- no name was
abbrev pub AttachesNone : (old new : List (List ℕ) → Type 0) → Type 0
AttachesNone old new = (names : List (List ℕ)) → old names → new names

-- the line's store alone; or none, where there is no line, or memory wanted before
abbrev pub AttachesStore : Option Asked → Ending → (old new : List (List ℕ) → Type 0) → Type 0
AttachesStore None ending old new = AttachesNone old new
AttachesStore (Some line) ending old new =
    Attaches line.store old new ⊎ ((ending ≡ Memory) × AttachesNone old new)

-- a run that reaches no script may end so
abbrev pub IsEarly : Ending → Type 0
IsEarly ending =
    (ending ≡ Disk) ⊎ ((ending ≡ Damaged) ⊎ ((ending ≡ Say) ⊎ (ending ≡ Memory)))

-- the line's script alone; or none, where the run ended before
abbrev pub AttachesScript : Option Asked → Ending → (old new : List (List ℕ) → Type 0) → Type 0
AttachesScript None ending old new = AttachesNone old new
AttachesScript (Some line) ending old new = Attaches line.script old new
    ⊎ (IsEarly ending × AttachesNone old new)
