-- What may be found after a crash: what was printed, and what the two files open to.
use Rattle.std.specs.Prelude.{◌≡◌, ◌⊎◌, ◌≤◌, ◌-◌, ◌==◌, ℕ, suc, List, [], ◌∷◌, ◌++◌, length, Some, Ok, slice_get, nat_lt, if◌then◌else◌}
use Rattle.pl_base.specs.Image.{Image}
use Rattle.pl_disk.specs.Disk.{IsPrefix}
use Rattle.pl_change.specs.pl_undo.Database.{Database}
use Rattle.pl_meaning.specs.Opening.{opens}
use Rattle.pl_meaning.specs.Trace.{Event, Said, Failed, Committed, text, commits}

-- how many commits come before the last event of which a byte is printed, where n bytes are
abbrev pub at_least : List Event → ℕ → ℕ
at_least [] n = 0
at_least (Said bytes ∷ events) n = at_least events (n - length bytes)
at_least (Failed bytes ∷ events) n = at_least events (n - length bytes)
at_least (Committed db ∷ events) n = if n == 0 then 0 else suc (at_least events n)

-- how many commits come before the first text that isn't wholly printed, where n bytes are; all of them where everything is
abbrev pub at_most : List Event → ℕ → ℕ
at_most [] n = 0
at_most (Said bytes ∷ events) n = if nat_lt n (length bytes) then 0 else at_most events (n - length bytes)
at_most (Failed bytes ∷ events) n = if nat_lt n (length bytes) then 0 else at_most events (n - length bytes)
at_most (Committed db ∷ events) n = suc (at_most events n)

-- What was printed is a front of the trace's text. The files open to the database after some number of the trace's commits, which
-- holds each commit that a printed byte follows, and none that follows an unprinted byte.
pub record Covered (trace : List Event) (printed : List ℕ) (image : Image) (db : Database) : Type 0 where
  pub front : IsPrefix printed (text trace)
  pub count : ℕ
  pub now : Database
  pub member : slice_get (commits trace db) count ≡ Some now
  pub opened : opens image ≡ Ok now
  pub holds_each : at_least trace (length printed) ≤ count
  pub no_more : count ≤ at_most trace (length printed)

-- A line is being printed: a front of it is, and the files open to this database; or it is wholly, and then come the other events.
abbrev pub InLine : (line printed : List ℕ) → Image → Database → (rest : List ℕ → Type 0) → Type 0
InLine line printed image db rest =
    (IsPrefix printed line × (opens image ≡ Ok db)) ⊎ ((more : List ℕ) × (printed ≡ line ++ more) × rest more)

-- The same as `Covered`, step by step along the trace: an event was reached, and what was printed and committed is that of the events
-- before it. In this form the runs of two commands join.
abbrev pub Along : List Event → List ℕ → Image → Database → Type 0
Along [] printed image db = (printed ≡ []) × (opens image ≡ Ok db)
Along (Said bytes ∷ events) printed image db = InLine bytes printed image db (λ more. Along events more image db)
Along (Failed bytes ∷ events) printed image db = InLine bytes printed image db (λ more. Along events more image db)
Along (Committed new ∷ events) printed image db = ((printed ≡ []) × (opens image ≡ Ok db)) ⊎ Along events printed image new

-- what was printed, behind what was printed before, and the image go along the trace
abbrev pub AlongFrom : (before : List ℕ) → List Event → Database → (printed : List ℕ) → Image → Type 0
AlongFrom before trace db printed image = (said : List ℕ) × (printed ≡ before ++ said) × Along trace said image db
