-- A store and its marks. It speaks of whole databases, of which the code has one.
use Rattle.std.specs.Prelude.{◌≡◌, ◌≤◌, ℕ, List, [], ◌∷◌, get_or, length, map}
use Rattle.std.specs.List.{AllByRecursion}
use Rattle.pl_catalog.specs.declared.object.Object.{Object}
use Rattle.pl_catalog.specs.Objects.{Catalogue}
use Rattle.pl_history.specs.History.{History}
use Rattle.pl_tables.specs.Named.{Named}
use Rattle.pl_undo.specs.declared.store.Start.{Start}
use Rattle.pl_undo.specs.Database.{database, Database, IsWhole}

-- the database now, that of the last commit, those at the live marks, and for how many more marks
-- there is room
pub record Stored : Type 0 where
  pub now : Database
  pub last : Database
  pub marks : List Database
  pub spare : ℕ

-- the state after so many changes
abbrev pub state_at : {A : Type 0} → History A → ℕ → A
state_at h n = get_or h.past n h.current

-- what was stays, however much is changed
pub record Keeps {A : Type 0} (old new : History A) : Type 0 where
  pub long : length old.past ≤ length new.past
  pub same : (n : ℕ) → n ≤ length old.past → state_at new n ≡ state_at old n

abbrev pub objects_of : Catalogue → History (List Object)
objects_of c = record { current = c.objects; past = c.past }

-- the database after so many changes
abbrev pub database_at : Catalogue → History (List Named) → Start → Database
database_at c t s = database (state_at (objects_of c) s.objects) (state_at t s.tables)

-- before all changes
abbrev pub at_first : Start
at_first = record { objects = 0; tables = 0 }

-- after all changes
abbrev pub at_last : Catalogue → History (List Named) → Start
at_last c t = record { objects = length c.past; tables = length t.past }

pub record IsUpTo (s t : Start) : Type 0 where
  pub objects : s.objects ≤ t.objects
  pub tables : s.tables ≤ t.tables

-- least, each, the next, top
abbrev pub Rising : Start → List Start → Start → Type 0
Rising least [] top = IsUpTo least top
Rising least (s ∷ ss) top = IsUpTo least s × Rising s ss top

-- the marks are in order, and each database is whole
pub record IsSound (c : Catalogue) (t : History (List Named)) (ss : List Start) : Type 0 where
  pub rising : Rising at_first ss (at_last c t)
  pub now : IsWhole (database c.objects t.current)
  pub last : IsWhole (database_at c t at_first)
  pub marks : AllByRecursion IsWhole (map (database_at c t) ss)
