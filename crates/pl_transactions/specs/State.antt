-- A session between two commands: an engine, whose marks are its savepoints, and beside it their
-- names and the mode.
use Rattle.std.specs.Prelude.{◌≡◌, ℕ, Bool, true, false, List, [], ◌∷◌, length}
use Rattle.std.specs.Prelude.{Option, Some, None}
use Rattle.pl_base.specs.declared.fail.Fail.{Fail}
use Rattle.pl_command.specs.pl_engine.Database.{Database}
use Rattle.pl_command.specs.pl_engine.Engines.{kept, world}
use Rattle.pl_command.specs.pl_engine.declared.engine.Engine.{Engine}
use Rattle.pl_transactions.specs.declared.transaction.Transaction.{Transaction}
use Rattle.pl_command.specs.pl_world.Sessions.{Save, Session, after_error, session}
use Rattle.pl_command.specs.pl_world.declared.session.Mode.{Mode}
use Rattle.pl_command.specs.pl_world.declared.session.Mode.TheVariants as mode

-- the savepoints of these names, each with the database of its mark
abbrev pub paired : (names : List (List ℕ)) → (marks : List Database) → List Save
paired [] ds = []
paired (name ∷ names) [] = []
paired (name ∷ names) (db ∷ dbs) = record { name = name; database = db } ∷ paired names dbs

-- what a session stands for
abbrev pub session_at : Transaction → Engine → Session
session_at t e = session (world e) t.mode (paired t.names.items (kept e).marks)

abbrev pub is_idle : Mode → Bool
is_idle mode.Idle = true
is_idle mode.Block = false
is_idle mode.Failed = false

abbrev pub is_block : Mode → Bool
is_block mode.Idle = false
is_block mode.Block = true
is_block mode.Failed = true

-- What each command begins with and leaves: every mark is that of a savepoint, and the engine knows
-- whether the session is in a block. Outside of one no savepoint stands, and all is committed.
pub record Stands (t : Transaction) (e : Engine) : Type 0 where
  pub marks : length (kept e).marks ≡ length t.names.items
  pub in_block : (world e).in_block ≡ is_block t.mode
  pub nameless : t.mode ≡ mode.Idle → t.names.items ≡ []
  pub settled : t.mode ≡ mode.Idle → (world e).last ≡ (world e).database

-- in a block an error makes it void
abbrev pub mode_behind : Option Fail → Mode → Mode
mode_behind (Some f) m = after_error m
mode_behind None m = m
