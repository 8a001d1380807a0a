-- Proofs of what the function that runs a query by its number does; no definition.
use Rattle.std.specs.Prelude.{◌≡◌, ℕ, List, Result}
use denote.Ref.{Bor, MutBor}
use Rattle.pl_query.specs.Query.{rows_before}
use Rattle.pl_query.specs.Sources.{Tables}
use Rattle.pl_resolved.specs.declared.query.RQuery.{RQuery}
use Rattle.pl_value.specs.Answers.{Reads}
use Rattle.pl_value.specs.Frames.{Row, rows_of}
use Rattle.pl_value.specs.Meaning.{Calls}
use Rattle.pl_value.specs.declared.operand.Lent.{Lent}
use Rattle.pl_value.specs.declared.operand.Unsettled.{Unsettled}

pub record Serves {G W T : Type 0} (calls : Calls W) (qs : List RQuery) (now : T) (table : T → Tables)
    (n : ℕ)
    (pre : G → Bor (List RQuery) → Bor T → ℕ → ℕ → Bor (List Lent) → MutBor W → Type 0)
    (post : G → Bor (List RQuery) → Bor T → ℕ → ℕ → Bor (List Lent) → MutBor W
    → Result (List Row) Unsettled → MutBor W → Type 0) : Type 0 where
  pub callable : (a : G) (q : Bor (List RQuery)) (t : Bor T) (at : ℕ) (f : Bor (List Lent))
      (old : MutBor W) → pre a q t n at f old
  pub serves : (a : G) (q : Bor (List RQuery)) (t : Bor T) (at : ℕ) (f : Bor (List Lent))
      (old new : MutBor W) (r : Result (List Row) Unsettled) → q.now ≡ qs → t.now ≡ now
      → post a q t n at f old r new
      → Reads (rows_before calls qs (table now) n at (rows_of f.now) old.now) r new.now
