-- The trace of some readings and more.
use Rattle.std.proofs.Common.{◌≡◌, ◌&&◌, ◌||◌, List, [], ◌∷◌, ◌++◌, cond, Bool, true, false, refl, sym, ◌∙◌, ap, subst, append_assoc}
use Rattle.std.proofs.lemmas.List.{append-nil}
use Rattle.pl_lex.specs.Characters.{Text}
use Rattle.pl_change.specs.pl_reading.Computed.{script_readings}
use Rattle.pl_change.specs.pl_undo.Database.{Database}
use Rattle.pl_meaning.specs.Meaning.{events, trace, IsTrace}
use Rattle.pl_meaning.specs.Trace.{Event, Said, Failed, Committed, is_failed, last_commit}
use Rattle.pl_change.specs.pl_reading.declared.reading.Reading.{Reading}
use Rattle.pl_meaning.proofs.Along.{last_commit-append}
use Rattle.pl_meaning.proofs.Scripts.{readings_only}

pub is_failed-append : (xs ys : List Event) → is_failed (xs ++ ys) ≡ (is_failed xs || is_failed ys)
is_failed-append [] ys = refl
is_failed-append (Said bytes ∷ xs) ys = is_failed-append xs ys
is_failed-append (Failed bytes ∷ xs) ys = refl
is_failed-append (Committed db ∷ xs) ys = is_failed-append xs ys

neither : (s f g : Bool) → (s && (f || g)) ≡ false → ((s && f) ≡ false) × ((s && g) ≡ false)
neither false f g is = (refl, refl)
neither true false g is = (refl, is)
neither true true g is = absurd (cc)

pub both_no : (s f g : Bool) → (s && f) ≡ false → (s && g) ≡ false → (s && (f || g)) ≡ false
both_no false f g a b = refl
both_no true false g a b = b
both_no true true g a b = absurd (cc)

module _ (stops : Bool) (r : Reading) (rs others : List Reading) (db : Database) where
  abbrev now : List Event
  now = events r db

  abbrev next : Database
  next = last_commit now db

  abbrev more : List Event
  more = trace stops rs next

  behind : (trace stops (rs ++ others) next ≡ more ++ trace stops others (last_commit more next))
      → now ++ trace stops (rs ++ others) next ≡ (now ++ more) ++ trace stops others (last_commit (now ++ more) db)
  behind is =
      ap (λ (l : List Event). now ++ l) is ∙ sym (append_assoc now more (trace stops others (last_commit more next)))
      ∙ ap (λ (e : Database). (now ++ more) ++ trace stops others e) (sym (last_commit-append now more db))

-- where no error ends the first ones, the others come behind them
pub trace-append : (stops : Bool) (first others : List Reading) (db : Database) → (stops && is_failed (trace stops first db)) ≡ false
    → trace stops (first ++ others) db ≡ trace stops first db ++ trace stops others (last_commit (trace stops first db) db)
trace-append stops [] others db goes_on = refl
trace-append stops (r ∷ rs) others db goes_on = by_test (λ no. trace-append stops rs others (last_commit (events r db) db) no) (stops && is_failed (events r db)) refl goes_on
  where
    by_test : ((stops && is_failed (trace stops rs (last_commit (events r db) db))) ≡ false
        → trace stops (rs ++ others) (last_commit (events r db) db) ≡ trace stops rs (last_commit (events r db) db) ++ trace stops others (last_commit (trace stops rs (last_commit (events r db) db)) (last_commit (events r db) db)))
        → (b : Bool) → (stops && is_failed (events r db)) ≡ b → (stops && is_failed (events r db ++ cond b [] (trace stops rs (last_commit (events r db) db)))) ≡ false
        → events r db ++ cond b [] (trace stops (rs ++ others) (last_commit (events r db) db))
        ≡ (events r db ++ cond b [] (trace stops rs (last_commit (events r db) db))) ++ trace stops others (last_commit (events r db ++ cond b [] (trace stops rs (last_commit (events r db) db))) db)
    by_test rest_so true e h =
        let no = (neither stops (is_failed (events r db)) false (ap (λ (f : Bool). stops && f) (sym (is_failed-append (events r db) [])) ∙ h)).0 in
        absurd (cc)
    by_test rest_so false e h =
        let rest = trace stops rs (last_commit (events r db) db) in
        let no = (neither stops (is_failed (events r db)) (is_failed rest) (ap (λ (f : Bool). stops && f) (sym (is_failed-append (events r db) rest)) ∙ h)).1 in
        behind stops r rs others db (rest_so no)

-- the trace of one reading
pub trace-one : (stops : Bool) (r : Reading) (db : Database) → trace stops (r ∷ []) db ≡ events r db
trace-one stops r db = by_test (stops && is_failed (events r db))
  where
    by_test : (b : Bool) → events r db ++ cond b [] [] ≡ events r db
    by_test true = append-nil (events r db)
    by_test false = append-nil (events r db)

-- the trace of a reading that ends a script
pub trace-last : (stops : Bool) (r : Reading) (others : List Reading) (db : Database) → (stops && is_failed (events r db)) ≡ true → trace stops (r ∷ others) db ≡ events r db
trace-last stops r others db error =
    ap (λ (b : Bool). events r db ++ cond b [] (trace stops others (last_commit (events r db) db))) error ∙ append-nil (events r db)

-- what holds of the trace of the computed readings holds of each trace of the script
pub of_trace : (script : Text) (stops : Bool) (db : Database) (P : List Event → Type 0) → P (trace stops (script_readings script) db) → (all : List Event) → IsTrace script stops db all → P all
of_trace script stops db P holds all (readings, read, is) = subst P (ap (λ (rs : List Reading). trace stops rs db) (sym (readings_only script readings read)) ∙ sym is) holds
