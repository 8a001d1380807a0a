-- What a script does, as the list of its events in order.
use Rattle.std.specs.Prelude.{ℕ, List, [], ◌∷◌, ◌++◌, Bool, true, false}
use Rattle.pl_change.specs.pl_undo.Database.{Database}

pub data Event : Type 0 where
  -- this line is printed; it is no error's
  Said : List ℕ → Event
  -- this line of an error is printed: a command failed
  Failed : List ℕ → Event
  -- this database is committed
  Committed : Database → Event

-- some command failed
abbrev pub is_failed : List Event → Bool
is_failed [] = false
is_failed (Said bytes ∷ events) = is_failed events
is_failed (Failed bytes ∷ events) = true
is_failed (Committed db ∷ events) = is_failed events

-- all that is printed
abbrev pub text : List Event → List ℕ
text [] = []
text (Said bytes ∷ events) = bytes ++ text events
text (Failed bytes ∷ events) = bytes ++ text events
text (Committed db ∷ events) = text events

-- the database at the start, and after each commit; its members count from 0
abbrev pub commits : List Event → Database → List Database
commits [] db = db ∷ []
commits (Said bytes ∷ events) db = commits events db
commits (Failed bytes ∷ events) db = commits events db
commits (Committed new ∷ events) db = db ∷ commits events new

-- the database of the last commit, or the one at the start
abbrev pub last_commit : List Event → Database → Database
last_commit [] db = db
last_commit (Said bytes ∷ events) db = last_commit events db
last_commit (Failed bytes ∷ events) db = last_commit events db
last_commit (Committed new ∷ events) db = last_commit events new
