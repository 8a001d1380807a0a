-- What holds of a whole run of the program at every moment, and of several runs in a row.
use Rattle.std.specs.Prelude.{◌≡◌, ◌⊎◌, ℕ, List, [], ◌∷◌, ◌++◌}
use Rattle.pl_base.specs.Image.{Image}
use Rattle.pl_disk.specs.Disk.{View}
use Rattle.pl_session.specs.pl_world.Covered.{Covered}
use Rattle.pl_undo.specs.Database.{Database}
use Rattle.pl_session.specs.pl_world.Trace.{Event}

-- what was printed since the run's start, and the files that a crash then leaves, are covered by
-- the events
abbrev pub CoveredPair : View → List Event → Database → List ℕ → Image → Type 0
CoveredPair old events db printed image =
    (said : List ℕ) × (printed ≡ old.printed ++ said) × Covered events said image db

-- nothing is printed yet, and of the files that a crash then leaves P holds; or the two are covered
abbrev pub LeftBy : (Image → Type 0) → View → List Event → Database → List ℕ → Image → Type 0
LeftBy P old events db printed image =
    ((printed ≡ old.printed) × P image) ⊎ CoveredPair old events db printed image

-- Of a run from one view to another: at each moment since its start nothing is printed yet, and the
-- files are some that a crash might have left before; or they are covered. From the first sync of
-- the run on that succeeded they are covered.
pub record CoveredRun (old new : View) (events : List Event) (db : Database) : Type 0 where
  pub each : (printed : List ℕ) (image : Image) → new.since old.moment printed image
      → LeftBy old.may_leave old events db printed image
  pub settled : (t : ℕ) (later : List ℕ) → new.synced ≡ old.synced ++ t ∷ later
      → (printed : List ℕ) (image : Image) → new.since t printed image
      → CoveredPair old events db printed image

-- ---- several runs over one store, one after another

-- What is known of a run: the host before and after it, its events, and the database from which on
-- they are.
pub record Ran (H : Type 0) : Type 0 where
  pub old : H
  pub new : H
  pub events : List Event
  pub db : Database

-- A later run begins within this one, at its end or where it was cut short at some moment: after a
-- kill with the files as they were then, after a loss of power with some that a crash then left.
abbrev pub BeginsWithin : (old new later : View) → Type 0
BeginsWithin old new later = (image : Image) → later.may_leave image
    → new.since old.moment later.printed image

-- a later run begins with what the first one began with
abbrev pub BeginsAs : (first later : View) → Type 0
BeginsAs first later = (image : Image) → later.may_leave image
    → (later.printed ≡ first.printed) × first.may_leave image

-- These runs, the last one first, came one after another from this host on, and now a later one
-- begins.
abbrev pub IsChain : {H : Type 0} → (H → View) → (first : H) → List (Ran H) → (later : H) → Type 0
IsChain view first [] later = BeginsAs (view first) (view later)
IsChain view first (run ∷ earlier) later = IsChain view first earlier run.old
    × CoveredRun (view run.old) (view run.new) run.events run.db
    × BeginsWithin (view run.old) (view run.new) (view later)

-- What is known of what was printed and of the files after these runs: they are covered by the last
-- one that printed something or changed them; or by none, and are some that a crash might have left
-- before the first.
abbrev pub Known : {H : Type 0} → (H → View) → (first : H) → List (Ran H) → List ℕ → Image → Type 0
Known view first [] printed image = (printed ≡ (view first).printed) × (view first).may_leave image
Known view first (run ∷ earlier) printed image =
    LeftBy (λ i. Known view first earlier printed i) (view run.old) run.events run.db printed image
