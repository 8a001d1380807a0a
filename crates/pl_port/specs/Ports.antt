-- What the port over a store takes and tries.
use Rattle.std.specs.Prelude.{◌≡◌, List, [], ◌∷◌, ◌++◌}
use Rattle.pl_disk.specs.Disk.{View}
use Rattle.pl_keeper.specs.declared.head.Head.{Head}
use Rattle.pl_meaning.specs.Trace.{Event, Committed, last_commit, text}
use Rattle.pl_port.specs.Stores.{RunsAlong, Stores}
use Rattle.pl_undo.specs.Database.{Database}

-- a store is attached, which holds this database
pub record Fits (v : View) (keeper : Head) (db : Database) : Type 0 where
  pub attached : v.is_attached
  pub store : v.told → Stores v keeper db

-- From a store of this database on the events are done, in order: all that they say is printed, and
-- the store holds the database of the last commit.
pub record Takes (es : List Event) (db : Database) (old new : View) (before after : Head)
    : Type 0 where
  pub moments : RunsAlong old new es db
  pub printed : old.told → new.printed ≡ old.printed ++ text es
  pub store : Fits old before db → Fits new after (last_commit es db)

-- The event was tried, over a store of this database. A commit prints nothing.
pub record Tries (e : Event) (db : Database) (old new : View) : Type 0 where
  pub moments : RunsAlong old new (e ∷ []) db
  pub printed : (now : Database) → e ≡ Committed now → old.told → new.printed ≡ old.printed
