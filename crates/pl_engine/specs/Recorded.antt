-- What a recorder keeps of what it took.
use Rattle.std.specs.Prelude.{◌≡◌, ℕ, List, [], ◌∷◌, ◌++◌}
use Rattle.pl_engine.specs.declared.recorder.Recorder.{Recorder}
use Rattle.pl_world.specs.pl_journal.Journal.{LeadsTo}
use Rattle.pl_world.specs.Trace.{Committed, Event, Failed, Said}
use Rattle.pl_undo.specs.Database.{Database}

-- what was printed, and the payload of each commit
pub record Taken : Type 0 where
  pub printed : List ℕ
  pub payloads : List (List ℕ)

abbrev pub taken : Recorder → Taken
taken r = record { printed = r.printed.items; payloads = r.payloads.items }

abbrev pub with_lines : List ℕ → Taken → Taken
with_lines lines t = record t { printed = t.printed ++ lines }

abbrev pub with_payload : List ℕ → Taken → Taken
with_payload payload t = record t { payloads = t.payloads ++ payload ∷ [] }

-- lines are printed behind the others, and the payload of a commit leads to its database from the
-- one before
abbrev pub Takes : List Event → Database → (old new : Taken) → Type 0
Takes [] db old new = new ≡ old
Takes (Said lines ∷ es) db old new = Takes es db (with_lines lines old) new
Takes (Failed lines ∷ es) db old new = Takes es db (with_lines lines old) new
Takes (Committed now ∷ es) db old new =
    (payload : List ℕ) × LeadsTo payload db now × Takes es now (with_payload payload old) new

-- one after another the payloads lead from the one database to the other
abbrev pub Lead : List (List ℕ) → (first last : Database) → Type 0
Lead [] first last = last ≡ first
Lead (p ∷ ps) first last = (mid : Database) × LeadsTo p first mid × Lead ps mid last
