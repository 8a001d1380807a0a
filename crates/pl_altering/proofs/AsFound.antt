-- An INSERT whose rows are those of its query as they are.
use Rattle.std.proofs.Common.{rules, arith, ◌≡◌, ◌∙◌, ℕ, List, [], ◌∷◌, ◌++◌, Option, Some, None, Result, Ok, append-nil, append_assoc, ap, length, refl, reverse, slice_get, subst, sym}
use Rattle.std.proofs.lemmas.List.{length-append, reverse-append}
use Rattle.std.specs.List.{AllByRecursion}
use Rattle.pl_altering.proofs.Over.{same_over}
use Rattle.pl_altering.proofs.Wrote.{wrote_over}
use Rattle.pl_altering.specs.Ends.{done_from}
use Rattle.pl_altering.specs.Settings.{ReadsOver}
use Rattle.pl_altering.specs.Taking.{AreOwn, HasWidth, IsLeft, TakesRows}
use Rattle.pl_altering.specs.declared.command.Command.{Command}
use Rattle.pl_base.specs.declared.value.Value.{Value}
use Rattle.pl_natural.specs.Kept.{ReadsKept}
use Rattle.pl_query.specs.Rows.{in_turn}
use Rattle.pl_querying.specs.pl_calling.Ends.{Still, TriedAs}
use Rattle.pl_querying.specs.pl_calling.Standing.{Standing, fresh, keep}
use Rattle.pl_querying.specs.pl_calling.Writing.{WroteIn}
use Rattle.pl_querying.specs.pl_calling.declared.trial.Tried.{Tried}
use Rattle.pl_querying.specs.pl_engine.Texts.{do_bodies}
use Rattle.pl_resolved.specs.declared.expression.RExpr.{RExpr, the_lemmas}
use Rattle.pl_resolved.specs.declared.expression.RExpr.TheVariants.{Place}
use Rattle.pl_tables.specs.Named.{rows_named}
use Rattle.pl_targets.specs.declared.change.RChange.{RChange}
use Rattle.pl_targets.specs.declared.change.RWhat.{RWhat}
use Rattle.pl_value.specs.Frames.{Frame, Row, cell, or_null}
use Rattle.pl_value.specs.Meaning.{Calls, Sub, value, values}
use Rattle.pl_value.specs.Reading.{Reading, got, fails, then_read}
use Rattle.pl_value.specs.declared.operand.Unsettled.{Unsettled}
use Rattle.pl_world.specs.Calls.{Within, calls}
use Rattle.pl_world.specs.Changes.{Setting, adds_found, behind_row, does, meanings, setting, shown, writes}
use Rattle.pl_world.specs.Errors.{Spot}
use Rattle.pl_world.specs.Expressions.{begun, rows_over}
use Rattle.pl_world.specs.Running.{Runner}
use Rattle.pl_world.specs.Statements.{runner_for}
use Rattle.pl_world.specs.Variables.{row_of}
use Rattle.pl_world.specs.World.{World}
use Rattle.pl_world.specs.pl_journal.Writing.{written}

-- ---- lists from the back

pub turn : {A : Type 0} (found old new : List A) (last : A) → old ≡ new ++ last ∷ [] → (found ++ last ∷ []) ++ reverse new ≡ found ++ reverse old
turn {A} found old new last e =
    append_assoc found (last ∷ []) (reverse new)
    ∙ ap (λ (xs : List A). found ++ xs) (sym (reverse-append new (last ∷ [])))
    ∙ ap (λ (xs : List A). found ++ reverse xs) (sym e)

-- the last one stands in front of the others
pub front_back : {A : Type 0} (old new : List A) (last : A) → old ≡ new ++ last ∷ [] → reverse old ≡ last ∷ reverse new
front_back {A} old new last is = ap (λ (xs : List A). reverse xs) is ∙ reverse-append new (last ∷ [])

-- ---- values that are those of the row that was found

at_seam : (done rest : Row) (v : Value) → slice_get (done ++ v ∷ rest) (length done) ≡ Some v
at_seam [] rest v = refl
at_seam (d ∷ done) rest v = at_seam done rest v

place_gives : (calls : Calls Within) (sub : Sub Within) (row column : ℕ) (frame : Frame) (x : Within) → value calls sub (Place row column) frame x ≡ got (or_null (cell frame row column)) x
place_gives calls sub row column frame x = first_of (search (rules, the_lemmas), grind (arith, the_lemmas))

then_same : {A B : Type 0} (q : Reading Within A) (k k' : A → Within → Reading Within B) → ((a : A) (x : Within) → k a x ≡ k' a x) → then_read q k ≡ then_read q k'
then_same (got a x) k k' same = same a x
then_same (fails state x) k k' same = refl

module _ (r : Runner) (at : Spot) (change : RChange) (w : World) where
  abbrev s : Setting
  s = setting r at change w

  own_value : (done rest : Row) (v : Value) (e : RExpr) (x : Within) → e ≡ Place 2 (length done) → value s.calls s.inner e (behind_row s (done ++ v ∷ rest)) x ≡ got v x
  own_value done rest v e x is =
      ap (λ (e : RExpr). value s.calls s.inner e (behind_row s (done ++ v ∷ rest)) x) is
      ∙ (place_gives s.calls s.inner 2 (length done) (behind_row s (done ++ v ∷ rest)) x
      ∙ ap (λ (o : Option Value). got (or_null o) x) (at_seam done rest v))

  own_values : (list : List RExpr) (done rest : Row) (x : Within) → AreOwn list (length done) → length rest ≡ length list → values (meanings s list) done (behind_row s (done ++ rest)) x ≡ got (done ++ rest) x
  own_values [] done [] x own same = ap (λ (row : Row). got row x) (sym (append-nil done))
  own_values [] done (v ∷ rest) x own same = absurd cc
  own_values (e ∷ more) done [] x own same = absurd cc
  own_values (e ∷ more) done (v ∷ rest) x (is, own) same =
      let all : (done ++ v ∷ []) ++ rest ≡ done ++ v ∷ rest = append_assoc done (v ∷ []) rest in
      ap (λ (q : Reading Within Value). then_read q (λ u x. values (meanings s more) (done ++ u ∷ []) (behind_row s (done ++ v ∷ rest)) x)) (own_value done rest v e x is)
      ∙ (ap (λ (row : Row). values (meanings s more) (done ++ v ∷ []) (behind_row s row) x) (sym all)
      ∙ (own_values more (done ++ v ∷ []) rest x (subst (λ (n : ℕ). AreOwn more n) (sym (length-append done (v ∷ []))) own) (omega (arith, same))
      ∙ ap (λ (row : Row). got row x) all))

  own_turn : (list : List RExpr) (row : Row) (done : List Row) (x : Within) → AreOwn list 0 → length row ≡ length list → adds_found s list row done x ≡ writes s None row done x
  own_turn list row done x own wide = ap (λ (q : Reading Within Row). then_read q (λ row x. writes s None row done x)) (own_values list [] row x own wide)

  own_turns : (list : List RExpr) (found done : List Row) (x : Within) → AreOwn list 0 → AllByRecursion (HasWidth (length list)) found → in_turn (adds_found s list) found done x ≡ in_turn (writes s None) found done x
  own_turns list [] done x own wide = refl
  own_turns list (row ∷ found) done x own (wide, all) =
      ap (λ (q : Reading Within (List Row)). then_read q (λ done x. in_turn (adds_found s list) found done x)) (own_turn list row done x own wide)
      ∙ then_same (writes s None row done x) (λ done x. in_turn (adds_found s list) found done x) (λ done x. in_turn (writes s None) found done x) (λ done x. own_turns list found done x own all)

-- ---- what is left to do once the query was read

still_fresh : (at : Spot) (room : ℕ) (w : World) (left : Standing) (x : Within) → Still w left → left ≡ keep at room x → fresh at room w ≡ keep at room x
still_fresh at room w left x still is = rw (← still.world, ← still.said, ← still.spent, ← still.failure) (rw is refl)

module _ (at : Spot) (room : ℕ) (change : RChange) (width : ℕ) (w : World) (takes : TakesRows change width) (found : List Row) (wide : AllByRecursion (HasWidth width) found) where
  abbrev r : Runner
  r = runner_for do_bodies room

  read_on : (x : Within) → rows_over r at change.queries w ≡ got found x → done_from r at change w ≡ in_turn (writes (setting r at change w) None) found [] x
  read_on x reads =
      ap (λ (what : RWhat). does (setting r at change w) (row_of w.frame ∷ []) (rows_named change.table w.database.tables) what (begun w)) takes.what
      ∙ (ap (λ (q : Reading Within (List Row)). then_read q (λ found x. in_turn (adds_found (setting r at change w) takes.list) found [] x)) reads
      ∙ own_turns r at change w takes.list found [] x takes.own (subst (λ (n : ℕ). AllByRecursion (HasWidth n) found) takes.wide wide))

  left_behind : (left : Standing) → Still w left → (x : Within) → rows_over r at change.queries w ≡ got found x → left ≡ keep at room x → IsLeft at room change found w
  left_behind left still x reads is = record {
    behind = x;
    reads = read_on x reads;
    begins = still_fresh at room w left x still is;
    shows = takes.shows;
  }

  left_in : (left : Standing) → Still w left → ReadsKept (keep at room) (rows_over r at change.queries w) (Ok found) left → IsLeft at room change found w
  left_in left still (x, reads, is) = left_behind left still x reads is

  pub left_of : (tried : Tried (List Row)) → tried.answer ≡ Ok found → TriedAs at room (rows_over r at change.queries w) w tried → IsLeft at room change found w
  left_of tried is (left, still, reads) = left_in left still (subst (λ (a : Result (List Row) Unsettled). ReadsKept (keep at room) (rows_over r at change.queries w) a left) is reads)

-- ---- writes that show nothing

module _ (s : Setting) (none : s.change.returning ≡ []) where
  pub shows_none : (row : Row) (done : List Row) (x : Within) → shown s row done x ≡ got (done ++ [] ∷ []) x
  shows_none row done x = ap (λ (list : List RExpr). then_read (values (meanings s list) [] (behind_row s row) x) (λ row x. got (done ++ row ∷ []) x)) none

  -- the row was written
  pub taken : (command : Command) (row : Row) (done : List Row) (answer : Result (List Row) Unsettled) (old mid : Standing) → WroteIn (written old.world.database.objects s.change.table None row old.world.database.tables) (Ok tt) old mid
      → ReadsOver command (λ (x : Within). got (done ++ [] ∷ []) x) answer mid mid → ReadsOver command (λ (x : Within). writes s None row done x) answer old mid
  taken command row done answer old mid wrote got_it =
      wrote_over command s None row row done answer old mid mid (λ e more is. refl) wrote
      (same_over command (λ (x : Within). shown s row done x) (λ (x : Within). got (done ++ [] ∷ []) x) answer mid mid (shows_none row done) got_it)
