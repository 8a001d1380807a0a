-- What opening a store does, and why it may not be done.
use Rattle.std.specs.Prelude.{◌≡◌, ◌⊎◌, ◌++◌, ◌∷◌, ℕ, List, Ok, Err}
use Rattle.pl_base.specs.Image.{Image}
use Rattle.pl_disk.specs.Disk.{View, Rises}
use Rattle.pl_keeper.specs.Batches.{batches}
use Rattle.pl_exec.specs.pl_world.Opening.{opens}
use Rattle.pl_session.specs.State.{database_in, session_in, IsReady}
use Rattle.pl_session.specs.declared.halt.StartFail.{StartFail}
use Rattle.pl_session.specs.declared.halt.StartFail.TheVariants.{Disk, Damaged, Memory}
use Rattle.pl_session.specs.declared.state.SessionState.{SessionState}
use Rattle.pl_exec.specs.pl_world.Sessions.{new_session}

-- nothing more is printed, and an image is one from before or opens as what reads give
pub record StartPair (v : View) (p : List ℕ) (c : Image) : Type 0 where
  pub printed : p ≡ v.printed
  pub opened : v.may_leave c ⊎ (opens c ≡ opens v.seen)

-- nothing more is printed, and an image opens as what reads give
abbrev pub OpensSame : View → List ℕ → Image → Type 0
OpensSame v p c = (p ≡ v.printed) × (opens c ≡ opens v.seen)

-- After Ok: a sync succeeded, and a new session is ready with the database that the files opened to,
-- whose batches are those of the files from before.
pub record IsStarted (old new : View) (state : SessionState) : Type 0 where
  pub ready : IsReady new state
  pub begins : session_in state ≡ new_session (database_in state)
  pub opened : old.told → opens old.seen ≡ Ok (database_in state)
  pub same : old.told → batches new.seen ≡ batches old.seen
  pub synced : old.told → (t : ℕ) × (later : List ℕ) × (new.synced ≡ old.synced ++ t ∷ later)

-- Why a store wasn't opened, a line an ending: the count of the disk's failures rose; the files open to nothing, and this is the
-- place; there was no memory.
abbrev pub HasStartCause : View → View → StartFail → Type 0
HasStartCause old new Disk = Rises old.disk_faults new.disk_faults
HasStartCause old new (Damaged area at) = old.told → opens old.seen ≡ Err (record { area = area; at = at })
HasStartCause old new Memory = Unit {0}
