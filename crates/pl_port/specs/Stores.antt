-- A store that holds a database, and what is done over it.
use Rattle.std.specs.Prelude.{◌≡◌, List, Ok}
use Rattle.pl_base.specs.Image.{Image}
use Rattle.pl_disk.specs.Disk.{View, Runs}
use Rattle.pl_engine.specs.pl_journal.Operation.{empty}
use Rattle.pl_keeper.specs.Batches.{Stored}
use Rattle.pl_keeper.specs.Store.{IsStore}
use Rattle.pl_keeper.specs.declared.head.Head.{Head}
use Rattle.pl_meaning.specs.Covered.{AlongFrom}
use Rattle.pl_meaning.specs.Opening.{apply_batches, opens}
use Rattle.pl_meaning.specs.Trace.{Event}
use Rattle.pl_undo.specs.Database.{Database}

-- nothing is unsettled, and the files are a store of batches that lead to this database, whose frames
-- end at the keeper's place
pub record Stores (v : View) (keeper : Head) (db : Database) : Type 0 where
  pub list : List Stored
  pub store : IsStore v keeper list
  pub leads : apply_batches list empty ≡ Ok db

-- every crash leaves files that open to this database
abbrev pub AllOpen : View → Database → Type 0
AllOpen v db = v.told → (c : Image) → v.may_leave c → opens c ≡ Ok db

-- at each moment, what was printed since and what a crash then leaves go along these events
abbrev pub RunsAlong : View → View → List Event → Database → Type 0
RunsAlong old new events db = Runs old new (AlongFrom old.printed events db)
