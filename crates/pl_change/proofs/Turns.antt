-- Readings of a command that go on.
use Rattle.std.proofs.Common.{◌≡◌, ◌<◌, ◌≤◌, ◌+◌, ℕ, List, [], ◌∷◌, ◌++◌, map, drop, get_or, length, Option, Some, None, Result, Ok, Err, refl, sym, ap, ◌∙◌, subst, add-one, drop-cons}
use Rattle.std.proofs.lemmas.List.{drop_all}
use Rattle.std.specs.Prelude.{OnOk}
use Rattle.pl_base.specs.States.{TRIGGERED_DATA_CHANGE_VIOLATION}
use Rattle.pl_base.specs.declared.state.State.{State}
use Rattle.pl_journal.specs.pl_catalog.declared.object.Object.{Object}
use Rattle.pl_change.specs.Changes.{Progress, Setting, at_row, if_there, progress, told, writes}
use Rattle.pl_change.specs.Running.{reached}
use Rattle.pl_journal.specs.Journal.{Leads}
use Rattle.pl_journal.specs.Writing.{written}
use Rattle.pl_tables.specs.Named.{Named, row_named}
use Rattle.pl_inside.specs.pl_query.Rows.{in_turn}
use Rattle.pl_resolved.specs.declared.expression.RExpr.{RExpr}
use Rattle.pl_journal.specs.pl_undo.Database.{Database}
use Rattle.pl_value.specs.Answers.{Reads}
use Rattle.pl_value.specs.Frames.{Frame, Row}
use Rattle.pl_value.specs.Meaning.{Calls, Sub, value, values}
use Rattle.pl_value.specs.Reading.{Reading, got, fails, settled, then_read}
use Rattle.pl_value.specs.Steps.{stops}
use Rattle.pl_value.specs.declared.operand.Unsettled.{Unsettled}
use Rattle.pl_value.specs.declared.operand.Unsettled.TheVariants.{Fails, Memory}

-- what equals what was read is read alike
pub same_reads : {W A : Type 0} (q q' : Reading W A) (r : Result A Unsettled) (new : W) → q ≡ q' → Reads q' r new → Reads q r new
same_reads {W} {A} q q' r new is reads = subst (λ (q : Reading W A). Reads q r new) (sym is) reads

-- a thing that is there stands in front of those behind it
pub front : {A : Type 0} (xs : List A) (i : ℕ) (x : A) → i < length xs → x ≡ get_or xs i x → drop i xs ≡ x ∷ drop (i + 1) xs
front xs i x lt is = rw (add-one, drop-cons xs i x lt, ← is) refl

module _ {W A : Type 0} (adds : A → Progress → W → Reading W Progress) (xs : List A) (i : ℕ) where
  -- one more was done
  pub turn_goes : (x : A) → drop i xs ≡ x ∷ drop (i + 1) xs → (whole : Reading W Progress) (p p' : Progress) (w w' : W) → whole ≡ in_turn adds (drop i xs) p w
      → adds x p w ≡ got p' w' → whole ≡ in_turn adds (drop (i + 1) xs) p' w'
  turn_goes x is whole p p' w w' reads gives =
      reads ∙ (ap (λ (ys : List A). in_turn adds ys p w) is
      ∙ ap (λ (q : Reading W Progress). then_read q (λ p w. in_turn adds (drop (i + 1) xs) p w)) gives)

  -- all were done
  pub turn_ends : length xs ≤ i → (whole : Reading W Progress) (p : Progress) (w : W) → whole ≡ in_turn adds (drop i xs) p w → whole ≡ got p w
  turn_ends le whole p w reads = reads ∙ ap (λ (ys : List A). in_turn adds ys p w) (drop_all i xs le)

  -- one failed
  pub turn_stops : (x : A) → drop i xs ≡ x ∷ drop (i + 1) xs → (whole : Reading W Progress) (p : Progress) (w new : W) (why : Unsettled) → whole ≡ in_turn adds (drop i xs) p w
      → Reads {A = Progress} (adds x p w) (Err why) new → Reads {A = Progress} whole (Err why) new
  turn_stops x is whole p w new why reads failed =
      stops {A = Progress} {B = Progress} whole (adds x p w) (λ p w. in_turn adds (drop (i + 1) xs) p w) why new (reads ∙ ap (λ (ys : List A). in_turn adds ys p w) is) failed

values_same : {W : Type 0} (calls : Calls W) (inner : Sub W) (list : List RExpr) (around : Frame) (copied row : Row) (w : W) → ((e : RExpr) (more : List RExpr) → list ≡ e ∷ more → copied ≡ row)
    → values (map (value calls inner) list) [] (around ++ copied ∷ []) w ≡ values (map (value calls inner) list) [] (around ++ row ∷ []) w
values_same calls inner [] around copied row w is = refl
values_same calls inner (e ∷ more) around copied row w is = ap (λ (r : Row). values (map (value calls inner) (e ∷ more)) [] (around ++ r ∷ []) w) (is e more refl)

module _ {W : Type 0} (s : Setting W) where
  told_same : (copied row : Row) (p : Progress) (w : W) → ((e : RExpr) (more : List RExpr) → s.change.returning ≡ e ∷ more → copied ≡ row) → told s row p w ≡ told s copied p w
  told_same copied row p w is =
      ap (λ (q : Reading W Row). then_read q (λ shown w. got (progress p.tables (p.returned ++ shown ∷ [])) w)) (sym (values_same s.calls s.inner s.change.returning s.around copied row w is))

  -- a row was written by the rules of these objects, and shown by its copy
  pub wrote : (id : Option ℕ) (copied row : Row) (before : Database) (after : List Named) (rows : List Row) (w new : W) (r : Result (List Row) Unsettled)
      → ((e : RExpr) (more : List RExpr) → s.change.returning ≡ e ∷ more → copied ≡ row) → s.objects ≡ before.objects → written before.objects s.change.table id row before.tables ≡ Ok after
      → Reads {A = Progress} (told s copied (progress after rows) w) (reached r after) new → Reads {A = Progress} (writes s id row (progress before.tables rows) w) (reached r after) new
  wrote id copied row before after rows w new r is same leads reads =
      same_reads (writes s id row (progress before.tables rows) w) (told s copied (progress after rows) w) (reached r after) new
      (ap (λ (os : List Object). then_read (settled (written os s.change.table id row before.tables) w) (λ tables w. told s row (progress tables rows) w)) same
      ∙ (ap (λ (o : Result (List Named) State). then_read (settled o w) (λ tables w. told s row (progress tables rows) w)) leads ∙ told_same copied row (progress after rows) w is)) reads

  -- without RETURNING the row that is shown is empty
  pub untold : (row : Row) (p : Progress) (w : W) → s.change.returning ≡ [] → told s row p w ≡ got (progress p.tables (p.returned ++ [] ∷ [])) w
  untold row p w is =
      ap (λ (list : List RExpr). then_read (values (map (value s.calls s.inner) list) [] (s.around ++ row ∷ []) w) (λ shown w. got (progress p.tables (p.returned ++ shown ∷ [])) w)) is

  -- it wasn't
  pub refused : (A : Type 0) (id : Option ℕ) (row : Row) (before : Database) (after : List Named) (rows : List Row) (w : W) (why : Unsettled) → s.objects ≡ before.objects
      → Leads {A = A} (written before.objects s.change.table id row before.tables) (Err why) after → Reads {A = Progress} (writes s id row (progress before.tables rows) w) (Err why) w
  refused A id row before after rows w (Fails state) same leads =
      ap (λ (os : List Object). then_read (settled (written os s.change.table id row before.tables) w) (λ tables w. told s row (progress tables rows) w)) same
      ∙ ap (λ (o : Result (List Named) State). then_read (settled o w) (λ tables w. told s row (progress tables rows) w)) leads
  refused A id row before after rows w Memory same leads = tt

  -- the row of an id that is there, and one that isn't
  pub row_there : (reads : Row → W → Reading W (Option Row)) (id : ℕ) (ts : List Named) (row : Row) (w : W) → row_named s.change.table id ts ≡ Some row → at_row s reads id ts w ≡ reads row w
  row_there reads id ts row w is =
      ap (λ (o : Option Row). if_there s reads o w) is

  pub row_gone : (reads : Row → W → Reading W (Option Row)) (id : ℕ) (ts : List Named) (w : W) → row_named s.change.table id ts ≡ None → at_row s reads id ts w ≡ fails TRIGGERED_DATA_CHANGE_VIOLATION w
  row_gone reads id ts w is =
      ap (λ (o : Option Row). if_there s reads o w) is

-- what holds anyway holds of an Ok
pub on_ok : {A E P : Type 0} (r : Result A E) → P → OnOk r P
on_ok (Ok x) p = p
on_ok (Err e) p = tt
