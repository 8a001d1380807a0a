-- What the steps of a run do: the last line that it says, and the commands of its script.
use Rattle.std.specs.Prelude.{◌≡◌, ◌≢◌, ◌⊎◌, ◌&&◌, ℕ, List, ◌++◌, Bool, true, false}
use Rattle.pl_disk.specs.Disk.{View, Continues, Elapses, IsPrefix, Keeps, Rises}
use Rattle.pl_session.specs.pl_world.Trace.{Event, is_failed}
use Rattle.pl_session.specs.Endings.{Done, PrintsWhole}
use Rattle.pl_session.specs.Traces.{AreFront, IsTrace}
use Rattle.pl_session.specs.pl_world.Sessions.{Session}
use Rattle.pl_cli.specs.declared.ending.Ending.{Ending}
use Rattle.pl_cli.specs.declared.ending.Ending.TheVariants.{Whole, Usage, AtError, Disk, Source, Say, Damaged, Refused, Memory}

-- A run's last line is said, and it ends so; or with `Say`, where printing failed.
pub record SaysLast (line : List ℕ) (ending : Ending) (old new : View)
    (result : Ending) : Type 0 where
  pub continues : Continues old new
  pub known : (result ≡ ending) ⊎ ((result ≡ Say) × Rises old.say_faults new.say_faults)
  pub whole : old.told → result ≢ Say → new.printed ≡ old.printed ++ line
  pub images : old.told → Keeps old new
  pub time : old.told → Elapses old new
      (λ p c. ((said : List ℕ) × IsPrefix said line × (p ≡ old.printed ++ said)) × old.may_leave c)

-- Why the commands of a script end so, a line an ending. (The others come before.)
abbrev pub ScriptEnd : Ending → (old new : View) → (script : List ℕ) → (steps : ℕ)
    → (stops : Bool) → Session → Type 0
ScriptEnd Whole old new script steps stops s =
    (events : List Event) → IsTrace script steps stops s events
    → (old.told → Done old new events s.world.last) × ((stops && is_failed events) ≡ false)
ScriptEnd AtError old new script steps stops s =
    (events : List Event) → IsTrace script steps stops s events
    → (old.told → Done old new events s.world.last) × ((stops && is_failed events) ≡ true)
ScriptEnd Disk old new script steps stops s =
    Rises old.disk_faults new.disk_faults × PrintsWhole old new script steps stops s
ScriptEnd Say old new script steps stops s = Rises old.say_faults new.say_faults
ScriptEnd Memory old new script steps stops s = (events : List Event)
    × AreFront script steps stops s events × (old.told → Done old new events s.world.last)
ScriptEnd Usage old new script steps stops s = ⊥
ScriptEnd Source old new script steps stops s = ⊥
ScriptEnd Damaged old new script steps stops s = ⊥
ScriptEnd Refused old new script steps stops s = ⊥
