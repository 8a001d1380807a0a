-- Queries by their number.
use Rattle.std.proofs.Common.{◌≡◌, ◌<◌, ◌≤◌, refl, sym, ap, ◌∙◌, ℕ, zero, suc, ◌==◌, Bool, true, false, cond, List, [], Option, Some, None, slice_get, Result, subst, arith}
use Rattle.std.proofs.lemmas.Bool.{eqb-true, eqb-false}
use Rattle.pl_query.specs.Query.{rows_before, query, query_if}
use Rattle.pl_query.specs.Sources.{Tables}
use Rattle.pl_resolved.specs.declared.query.RQuery.{RQuery}
use Rattle.pl_value.specs.Answers.{Reads}
use Rattle.pl_value.specs.Frames.{Row, Frame}
use Rattle.pl_value.specs.Meaning.{Calls}
use Rattle.pl_value.specs.Reading.{Reading, got, then_read}
use Rattle.pl_value.specs.declared.operand.Unsettled.{Unsettled}

other : {A : Type 0} (b : Bool) (n at : ℕ) → (at == n) ≡ b → suc n ≤ at → (x y z : A) → y ≡ z → cond b x y ≡ z
other true n at e le x y z is = let same : at ≡ n = eqb-true at n e in absurd (omega (arith, le, same))
other false n at e le x y z is = is

either : {A : Type 0} (b : Bool) (n at : ℕ) → (at == n) ≡ b → at < suc n → (x y z : A) → (at ≡ n → x ≡ z) → (at < n → y ≡ z) → cond b x y ≡ z
either true n at e lt x y z here below = here (eqb-true at n e)
either false n at e lt x y z here below = below (omega (arith, lt, eqb-false at n e))

module _ {W : Type 0} (calls : Calls W) (qs : List RQuery) (tables : Tables) where
  none : (n at : ℕ) (outer : Frame) (w : W) → n ≤ at → rows_before calls qs tables n at outer w ≡ got [] w
  unfolding rows_before
  none zero at outer w le = refl
  none (suc n) at outer w le =
      other (at == n) n at refl le (query_if calls (rows_before calls qs tables n) tables (slice_get qs n) outer w) (rows_before calls qs tables n at outer w) (got [] w)
      (none n at outer w (omega (arith, le)))

  found : (n at : ℕ) (outer : Frame) (w : W) → at < n
      → rows_before calls qs tables n at outer w ≡ query_if calls (rows_before calls qs tables at) tables (slice_get qs at) outer w
  unfolding rows_before
  found zero at outer w lt = absurd (omega (arith, lt))
  found (suc n) at outer w lt =
      either (at == n) n at refl lt (query_if calls (rows_before calls qs tables n) tables (slice_get qs n) outer w) (rows_before calls qs tables n at outer w)
      (query_if calls (rows_before calls qs tables at) tables (slice_get qs at) outer w)
      (λ same. ap (λ (k : ℕ). query_if calls (rows_before calls qs tables k) tables (slice_get qs k) outer w) (sym same))
      (found n at outer w)

  -- what is asked of a query below the limit
  pub asked_found : {A : Type 0} (n at : ℕ) (outer : Frame) (w : W) (q : RQuery) (k : List Row → W → Reading W A) (answer : Reading W A) → at < n → slice_get qs at ≡ Some q
      → then_read (query calls (rows_before calls qs tables at) tables q outer w) k ≡ answer → then_read (rows_before calls qs tables n at outer w) k ≡ answer
  asked_found n at outer w q k answer lt is asked =
      ap (λ (x : Reading W (List Row)). then_read x k)
      (found n at outer w lt ∙ ap (λ (o : Option RQuery). query_if calls (rows_before calls qs tables at) tables o outer w) is)
      ∙ asked

  pub is_none : (n at : ℕ) (outer : Frame) (w : W) (made : List Row) → n ≤ at → made ≡ [] → rows_before calls qs tables n at outer w ≡ got made w
  is_none n at outer w made le new = none n at outer w le ∙ ap (λ (rows : List Row). got rows w) (sym new)

  pub is_found : (n at : ℕ) (outer : Frame) (w new : W) (q : RQuery) (r : Result (List Row) Unsettled) → at < n → slice_get qs at ≡ Some q
      → Reads {A = List Row} (query calls (rows_before calls qs tables at) tables q outer w) r new → Reads {A = List Row} (rows_before calls qs tables n at outer w) r new
  is_found n at outer w new q r lt is reads =
      subst (λ (x : Reading W (List Row)). Reads {A = List Row} x r new)
      (sym (found n at outer w lt ∙ ap (λ (o : Option RQuery). query_if calls (rows_before calls qs tables at) tables o outer w) is)) reads

  pub is_absent : (n at : ℕ) (outer : Frame) (w : W) (made : List Row) → at < n → slice_get qs at ≡ None → made ≡ [] → rows_before calls qs tables n at outer w ≡ got made w
  is_absent n at outer w made lt is new =
      found n at outer w lt ∙ (ap (λ (o : Option RQuery). query_if calls (rows_before calls qs tables at) tables o outer w) is ∙ ap (λ (rows : List Row). got rows w) (sym new))
