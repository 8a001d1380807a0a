-- The events of some pieces and more.
use Rattle.std.proofs.Common.{◌≡◌, ◌∙◌, ◌&&◌, ◌||◌, ◌++◌, ℕ, Bool, true, false, cond, List, [], ◌∷◌, Option, Some, None, append_assoc, ap, refl, subst, sym}
use Rattle.std.proofs.lemmas.List.{append-nil}
use Rattle.pl_port.specs.pl_engine.Texts.{do_bodies}
use Rattle.pl_lex.specs.Characters.{Text}
use Rattle.pl_exec.proofs.of_pl_world.Lent.{is_failed-append, readings_only}
use Rattle.pl_exec.specs.pl_world.Trace.{Event, is_failed}
use Rattle.pl_reading.specs.Computed.{script_readings}
use Rattle.pl_reading.specs.declared.reading.Reading.{Reading}
use Rattle.pl_session.specs.Traces.{IsTrace, after, behind, ended_behind, events_by, events_in, session_by, trace}
use Rattle.pl_exec.specs.pl_world.Scripts.{goes_on, piece_went, script}
use Rattle.pl_exec.specs.pl_world.Sessions.{Session, Went}

-- ---- one piece, and those behind it

goes_by : (o : Option Went) (stops : Bool) (k : Session → List Event) (s : Session) → goes_on o stops k s ≡ events_by o ++ cond (stops && is_failed (events_by o)) [] (k (session_by o s))
goes_by None true k s = refl
goes_by None false k s = refl
goes_by (Some w) stops k s = refl

trace-cons : (steps : ℕ) (stops : Bool) (r : Reading) (rs : List Reading) (s : Session) → trace steps stops (r ∷ rs) s ≡ events_in steps r s ++ cond (stops && is_failed (events_in steps r s)) [] (trace steps stops rs (after steps r s))
unfolding script
trace-cons steps stops r rs s = goes_by (piece_went do_bodies steps r s) stops (λ t. script do_bodies steps stops rs t) s

trace-nil : (steps : ℕ) (stops : Bool) (s : Session) → trace steps stops [] s ≡ []
unfolding script
trace-nil steps stops s = refl

neither : (s f g : Bool) → (s && (f || g)) ≡ false → ((s && f) ≡ false) × ((s && g) ≡ false)
neither false f g is = (refl, refl)
neither true false g is = (refl, is)
neither true true g is = absurd (cc)

parts : (stops : Bool) (now more : List Event) (b : Bool) → (stops && is_failed now) ≡ b → (stops && is_failed (now ++ cond b [] more)) ≡ false → ((stops && is_failed now) ≡ false) × ((stops && is_failed more) ≡ false)
parts stops now more true is fine =
    let no = (neither stops (is_failed now) false (ap (λ (f : Bool). stops && f) (sym (is_failed-append now [])) ∙ fine)).0 in
    absurd (cc)
parts stops now more false is fine = (is, (neither stops (is_failed now) (is_failed more) (ap (λ (f : Bool). stops && f) (sym (is_failed-append now more)) ∙ fine)).1)

module _ (steps : ℕ) (stops : Bool) where
  -- where no error ends the script, none is its first piece's, and none that of the others
  goes_both : (r : Reading) (rs : List Reading) (s : Session) → (stops && is_failed (trace steps stops (r ∷ rs) s)) ≡ false
      → ((stops && is_failed (events_in steps r s)) ≡ false) × ((stops && is_failed (trace steps stops rs (after steps r s))) ≡ false)
  goes_both r rs s fine = parts stops (events_in steps r s) (trace steps stops rs (after steps r s)) (stops && is_failed (events_in steps r s)) refl
      (ap (λ (es : List Event). stops && is_failed es) (sym (trace-cons steps stops r rs s)) ∙ fine)

  trace-on : (r : Reading) (rs : List Reading) (s : Session) → (stops && is_failed (events_in steps r s)) ≡ false → trace steps stops (r ∷ rs) s ≡ events_in steps r s ++ trace steps stops rs (after steps r s)
  trace-on r rs s fine = trace-cons steps stops r rs s ∙ ap (λ (b : Bool). events_in steps r s ++ cond b [] (trace steps stops rs (after steps r s))) fine

  -- ---- pieces, and those behind them

  -- where no error ends the first ones, the others come behind them
  pub trace-append : (first others : List Reading) (s : Session) → (stops && is_failed (trace steps stops first s)) ≡ false
      → trace steps stops (first ++ others) s ≡ trace steps stops first s ++ trace steps stops others (behind steps first s)
  trace-append [] others s fine = ap (λ (es : List Event). es ++ trace steps stops others s) (sym (trace-nil steps stops s))
  trace-append (r ∷ rs) others s fine =
      let both = goes_both r rs s fine in
      let now = events_in steps r s in
      let next = after steps r s in
      let end = trace steps stops others (behind steps rs next) in
      trace-on r (rs ++ others) s both.0 ∙ ap (λ (es : List Event). now ++ es) (trace-append rs others next both.1)
      ∙ sym (append_assoc now (trace steps stops rs next) end) ∙ ap (λ (es : List Event). es ++ end) (sym (trace-on r rs s both.0))

  pub behind-append : (first others : List Reading) (s : Session) → behind steps (first ++ others) s ≡ behind steps others (behind steps first s)
  behind-append [] others s = refl
  behind-append (r ∷ rs) others s = behind-append rs others (after steps r s)

  pub ended-append : (first others : List Reading) (s : Session) → (stops && is_failed (trace steps stops first s)) ≡ false
      → ended_behind steps stops (first ++ others) s ≡ ended_behind steps stops others (behind steps first s)
  ended-append [] others s fine = refl
  ended-append (r ∷ rs) others s fine =
      let both = goes_both r rs s fine in
      let next = after steps r s in
      ap (λ (b : Bool). cond b next (ended_behind steps stops (rs ++ others) next)) both.0 ∙ ended-append rs others next both.1

  -- one piece
  pub trace-one : (r : Reading) (s : Session) → trace steps stops (r ∷ []) s ≡ events_in steps r s
  trace-one r s =
      let now = events_in steps r s in
      trace-cons steps stops r [] s ∙ ap (λ (es : List Event). now ++ cond (stops && is_failed now) [] es) (trace-nil steps stops (after steps r s)) ∙ by_test now (stops && is_failed now)
    where
      by_test : (now : List Event) (b : Bool) → now ++ cond b [] [] ≡ now
      by_test now true = append-nil now
      by_test now false = append-nil now

  -- a piece that ends a script
  pub trace-last : (r : Reading) (others : List Reading) (s : Session) → (stops && is_failed (events_in steps r s)) ≡ true → trace steps stops (r ∷ others) s ≡ events_in steps r s
  trace-last r others s error =
      trace-cons steps stops r others s ∙ ap (λ (b : Bool). events_in steps r s ++ cond b [] (trace steps stops others (after steps r s))) error ∙ append-nil (events_in steps r s)

  pub ended-last : (r : Reading) (others : List Reading) (s : Session) → (stops && is_failed (events_in steps r s)) ≡ true → ended_behind steps stops (r ∷ others) s ≡ after steps r s
  ended-last r others s error = ap (λ (b : Bool). cond b (after steps r s) (ended_behind steps stops others (after steps r s))) error

-- what holds of the trace of the computed readings holds of each trace of the script
pub of_trace : (text : Text) (steps : ℕ) (stops : Bool) (s : Session) (P : List Event → Type 0) → P (trace steps stops (script_readings text) s) → (all : List Event) → IsTrace text steps stops s all → P all
of_trace text steps stops s P holds all (readings, read, is) =
    subst P (ap (λ (rs : List Reading). trace steps stops rs s) (sym (readings_only text readings read)) ∙ sym is) holds
