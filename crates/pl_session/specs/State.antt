-- A session between two calls.
use Rattle.std.specs.Prelude.{◌≡◌, None, Ok}
use Rattle.pl_base.specs.Image.{Image}
use Rattle.pl_disk.specs.Disk.{View}
use Rattle.pl_port.specs.pl_engine.Engines.{world}
use Rattle.pl_exec.specs.pl_world.Opening.{opens}
use Rattle.pl_port.specs.Stores.{Stores}
use Rattle.pl_session.specs.declared.state.SessionState.{SessionState}
use Rattle.pl_transactions.specs.State.{Stands, session_at}
use Rattle.pl_undo.specs.Database.{Database}
use Rattle.pl_exec.specs.pl_world.Sessions.{Session}

-- what a session stands for
abbrev pub session_in : SessionState → Session
session_in state = session_at state.transaction state.engine

-- the database of its last commit
abbrev pub database_in : SessionState → Database
database_in state = (world state.engine).last

-- What a call of a session begins with, and what it leaves after Ok: the session is open, its host
-- has a store, and every crash leaves files that open to the database of its last commit (`store` is
-- how its keeper knows them).
pub record IsReady (v : View) (state : SessionState) : Type 0 where
  pub is_open : state.failed ≡ None
  pub attached : v.is_attached
  pub stands : Stands state.transaction state.engine
  pub opens_to : v.told → (c : Image) → v.may_leave c → opens c ≡ Ok (database_in state)
  pub store : v.told → Stores v state.keeper (database_in state)
