-- The marks that protected blocks go back to, and the errors that are handled.
use Rattle.std.proofs.Common.{◌≡◌, ◌<◌, ◌≤◌, ◌+◌, ◌∙◌, ℕ, zero, suc, List, [], ◌∷◌, ◌++◌, Option, Some, Result, Ok, Err, OnOk, ap, arith, codes, false, length, refl, slice_get, sym, take}
use Rattle.std.proofs.lemmas.List.{length-take-le, nil_from_length}
use Rattle.std.proofs.lemmas.Option.{get_or_from_slice_get}
use Rattle.pl_base.specs.declared.fail.Fail.{Fail}
use Rattle.pl_base.specs.declared.types.Ty.TheVariants.{Text as TextType}
use Rattle.pl_base.specs.declared.value.Value.TheVariants.{Text}
use Rattle.pl_engine.specs.Engines.{Quiet, kept, world}
use Rattle.pl_engine.specs.Handling.{kept_at, returned_to, with_mark, with_marks}
use Rattle.pl_engine.specs.declared.engine.Engine.{Engine}
use Rattle.pl_world.specs.pl_names.Names.{Name}
use Rattle.pl_print.specs.Messages.{message_text}
use Rattle.pl_undo.specs.Database.{Database}
use Rattle.pl_undo.specs.Store.{Stored}
use Rattle.pl_world.specs.Blocks.{deeper, handled_end, handling, with_handled, without_handled}
use Rattle.pl_world.specs.Variables.{closed, declared, opened}
use Rattle.pl_world.specs.World.{World}
use Rattle.pl_world.specs.declared.outcome.Outcome.{Outcome}

-- ---- lists of marks

one_longer : (ms : List Database) (db : Database) → length (ms ++ db ∷ []) ≡ suc (length ms)
one_longer [] db = refl
one_longer (m ∷ ms) db = ap (λ (n : ℕ). suc n) (one_longer ms db)

pub still_live : (n : ℕ) (ms more : List Database) → more ≡ take (n + 1) ms → n < length ms → n < length more
still_live n ms more is lt =
    let long : length more ≡ n + 1 = ap (λ (ms : List Database). length ms) is ∙ length-take-le (n + 1) ms (omega (arith, lt)) in
    omega (arith, long)

taken_twice : (n m : ℕ) (ms : List Database) → n ≤ m → take n (take m ms) ≡ take n ms
taken_twice zero zero [] le = refl
taken_twice zero zero (d ∷ ms) le = refl
taken_twice zero (suc m) [] le = refl
taken_twice zero (suc m) (d ∷ ms) le = refl
taken_twice (suc n) zero ms le = absurd (omega (arith, le))
taken_twice (suc n) (suc m) [] le = refl
taken_twice (suc n) (suc m) (d ∷ ms) le = ap (λ (ds : List Database). d ∷ ds) (taken_twice n m ms (omega (arith, le)))

-- ---- the world, with another state of the journal

module _ (e : Engine) (k : Stored) where
  -- the database at the mark of this number, and the marks before it
  there_world : (n : ℕ) → n < length e.journal.marks → k.now ≡ (kept_at n e).database → k.last ≡ e.journal.last → k.marks ≡ take n e.journal.marks → world (record e { journal = k }) ≡ kept_at n e
  there_world n lt now last marks =
      let depth : length k.marks ≡ n = ap (λ (ms : List Database). length ms) marks ∙ length-take-le n e.journal.marks (omega (arith, lt)) in
      λ i. record (world e) { database = now i; last = last i; depth = depth i }

  -- a mark was released
  pub released_world : (n : ℕ) → n < length e.journal.marks → k.now ≡ e.journal.now → k.last ≡ e.journal.last → k.marks ≡ take n e.journal.marks → world (record e { journal = k }) ≡ record (world e) { depth = n }
  released_world n lt now last marks =
      let depth : length k.marks ≡ n = ap (λ (ms : List Database). length ms) marks ∙ length-take-le n e.journal.marks (omega (arith, lt)) in
      λ i. record (world e) { database = now i; last = last i; depth = depth i }

  -- it went back to a mark, which stays
  pub returned_world : (n : ℕ) → n < length e.journal.marks → slice_get e.journal.marks n ≡ Some k.now → k.last ≡ e.journal.last → k.marks ≡ take (n + 1) e.journal.marks → world (record e { journal = k }) ≡ returned_to n e
  returned_world n lt now last marks =
      let depth : length k.marks ≡ n + 1 = ap (λ (ms : List Database). length ms) marks ∙ length-take-le (n + 1) e.journal.marks (omega (arith, lt)) in
      let there : k.now ≡ (kept_at n e).database = sym (get_or_from_slice_get e.journal.marks n k.now e.journal.now now) in
      λ i. record (world e) { database = there i; last = last i; depth = depth i }

  -- marks are these
  pub marks_kept : (ms : List Database) → k.marks ≡ ms → kept (record e { journal = k }) ≡ record (kept e) { marks = ms }
  marks_kept ms marks = ap (λ (ms : List Database). record (kept e) { marks = ms }) marks

  pub returned_kept : (n : ℕ) → k.marks ≡ take (n + 1) e.journal.marks → kept (record e { journal = k }) ≡ with_marks (n + 1) (kept e)
  returned_kept n marks = marks_kept (take (n + 1) e.journal.marks) marks

  -- what was done is committed, where no mark was live
  pub committed_world : length e.journal.marks ≡ 0 → k.now ≡ e.journal.now → k.last ≡ e.journal.now → k.marks ≡ [] → world (record e { journal = k }) ≡ record (world e) { last = (world e).database }
  committed_world none now last marks =
      let depth : length k.marks ≡ length e.journal.marks = ap (λ (ms : List Database). length ms) marks ∙ sym none in
      λ i. record (world e) { database = now i; last = last i; depth = depth i }

  pub committed_kept : length e.journal.marks ≡ 0 → k.marks ≡ [] → kept (record e { journal = k }) ≡ kept e
  committed_kept none marks = marks_kept e.journal.marks (marks ∙ sym (nil_from_length e.journal.marks none))

-- by a state between
module _ (e : Engine) (j k : Stored) (last : j.last ≡ e.journal.last) (now' : k.now ≡ j.now) (last' : k.last ≡ j.last) where
  -- room was taken for a mark, and it was set
  module _ (now : j.now ≡ e.journal.now) (marks : j.marks ≡ e.journal.marks) (marks' : k.marks ≡ j.marks ++ j.now ∷ []) where
    set_marks : k.marks ≡ e.journal.marks ++ e.journal.now ∷ []
    set_marks = marks' ∙ (λ i. marks i ++ now i ∷ [])

    pub set_world : world (record e { journal = k }) ≡ deeper (world e)
    set_world =
        let depth : length k.marks ≡ suc (length e.journal.marks) = ap (λ (ms : List Database). length ms) set_marks ∙ one_longer e.journal.marks e.journal.now in
        let now : k.now ≡ e.journal.now = now' ∙ now in
        let last : k.last ≡ e.journal.last = last' ∙ last in
        λ i. record (world e) { database = now i; last = last i; depth = depth i }

    pub set_kept : kept (record e { journal = k }) ≡ with_mark (world e).database (kept e)
    set_kept = marks_kept e k (e.journal.marks ++ e.journal.now ∷ []) set_marks

  -- it went back to a mark, which was released
  module _ (n : ℕ) (live : n < length e.journal.marks) (now : slice_get e.journal.marks n ≡ Some j.now) (marks : j.marks ≡ take (n + 1) e.journal.marks) (marks' : k.marks ≡ take n j.marks) where
    back_marks : k.marks ≡ take n e.journal.marks
    back_marks = marks' ∙ (ap (λ (ms : List Database). take n ms) marks ∙ taken_twice n (n + 1) e.journal.marks (omega arith))

    pub back_world : world (record e { journal = k }) ≡ kept_at n e
    back_world = there_world e k n live (now' ∙ sym (get_or_from_slice_get e.journal.marks n j.now e.journal.now now)) (last' ∙ last) back_marks

    pub back_kept : kept (record e { journal = k }) ≡ with_marks n (kept e)
    back_kept = marks_kept e k (take n e.journal.marks) back_marks

-- ---- a handler

-- it has begun, if its variables were declared
module _ (label : Option Name) (f : Fail) (state message : List ℕ) (n : ℕ) (e0 e1 e2 e3 : Engine) where
  pub handler_begun : {A E : Type 0} (r : Result A E) → world e1 ≡ kept_at n e0 → state ≡ f.state.code → message ≡ message_text f.state.code f.message → world e2 ≡ with_handled f (world e1)
      → OnOk r (world e3 ≡ declared (codes "sqlerrm") TextType false (Text message) (declared (codes "sqlstate") TextType false (Text state) (opened label (world e2))))
      → OnOk r (world e3 ≡ handling label (kept_at n e0) f (world e0))
  unfolding handling
  handler_begun (Ok done) back is_state is_message handles declares =
      let handled : world e2 ≡ with_handled f (kept_at n e0) = handles ∙ ap (λ (w : World). with_handled f w) back in
      declares ∙ (λ i. declared (codes "sqlerrm") TextType false (Text (is_message i)) (declared (codes "sqlstate") TextType false (Text (is_state i)) (opened label (handled i))))
  handler_begun (Err fail) back is_state is_message handles declares = declares

closed_steps : (w : World) → (closed w).steps ≡ w.steps
unfolding closed
closed_steps w = refl

closed_last : (w : World) → (closed w).last ≡ w.last
unfolding closed
closed_last w = refl

pub handler_ended : (o : Outcome) (old mid new : Engine) → world mid ≡ closed (world old) → world new ≡ without_handled (world mid) → Quiet (handled_end o (world old)) o old new
unfolding handled_end
handler_ended o old mid new shut without =
    let steps : (world new).steps ≡ (world mid).steps = ap (λ (w : World). w.steps) without in
    let last : (world new).last ≡ (world mid).last = ap (λ (w : World). w.last) without in (
      ap (λ (w : World). without_handled w) (sym shut) ∙ sym without,
      refl,
      refl,
      refl,
      steps ∙ (ap (λ (w : World). w.steps) shut ∙ closed_steps (world old)),
      last ∙ (ap (λ (w : World). w.last) shut ∙ closed_last (world old)),
    )
