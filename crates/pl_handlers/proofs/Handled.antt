-- Protected statements, the handlers of their errors, and what is put back for these.
use Rattle.std.proofs.Common.{◌≡◌, ◌≢◌, ◌↔◌, ◌<◌, ◌+◌, ◌∙◌, ℕ, Bool, false, IsTrue, List, [], ◌∷◌, ◌++◌, Option, Some, None, ap, arith, get_or, length, length-append, refl, sym, take, true≢false}
use Rattle.std.proofs.Math.Seq.{get_or-append_seam, take-append_seam}
use Rattle.pl_base.specs.declared.fail.Fail.{Fail}
use Rattle.pl_bodies.specs.declared.statement.Handler.{Handler}
use Rattle.pl_bodies.specs.declared.statement.Statement.{Statement}
use Rattle.pl_flow.proofs.of_pl_engine.Joins.{Lawful, becomes, ended, quietly, start}
use Rattle.pl_flow.specs.pl_engine.Answers.{Done, Partway}
use Rattle.pl_flow.specs.pl_engine.Engines.{Kept, kept, world}
use Rattle.pl_flow.specs.pl_engine.Handling.{kept_at, with_mark, with_marks}
use Rattle.pl_flow.specs.pl_engine.declared.engine.Engine.{Engine}
use Rattle.pl_flow.specs.pl_engine.declared.port.Port.{Ghosts}
use Rattle.pl_names.specs.Names.{Name}
use Rattle.pl_undo.specs.Database.{Database}
use Rattle.pl_conditions.specs.pl_world.Blocks.{caught, deeper, handled_by, handled_end, handler_for, handling, protected, with_handled, with_sqlstate}
use Rattle.pl_conditions.specs.pl_world.Running.{Runner, all}
use Rattle.pl_conditions.specs.pl_world.Variables.{declared, opened}
use Rattle.pl_conditions.specs.pl_world.World.{Ran, World, and_then, ends}
use Rattle.pl_conditions.specs.pl_world.declared.outcome.Outcome.{Outcome}
use Rattle.pl_conditions.specs.pl_world.declared.outcome.Outcome.TheVariants as outcome

-- ---- the meaning, opened

handling_steps : (label : Option Name) (entry : World) (f : Fail) (w : World) → (handling label entry f w).steps ≡ w.steps
unfolding handling declared opened
handling_steps label entry f w = refl

handling_last : (label : Option Name) (entry : World) (f : Fail) (w : World) → (handling label entry f w).last ≡ w.last
unfolding handling declared opened
handling_last label entry f w = refl

-- of the world at the entry the database and the depth are used
handling_alike : (label : Option Name) (entry other : World) (f : Fail) (w : World) → other.database ≡ entry.database → other.depth ≡ entry.depth → handling label other f w ≡ handling label entry f w
unfolding handling
handling_alike label entry other f w database depth = λ i. with_sqlstate label f (with_handled f (record w { database = database i; depth = depth i }))

handled_alike : (r : Runner) (label : Option Name) (h : Option (List Statement)) (entry other : World) (f : Fail) (w : World) → other.database ≡ entry.database → other.depth ≡ entry.depth
    → handled_by r label h other f w ≡ handled_by r label h entry f w
handled_alike r label None entry other f w database depth = ap (λ (n : ℕ). ends (outcome.Fail f) (record w { depth = n })) depth
handled_alike r label (Some ss) entry other f w database depth = ap (λ (v : World). and_then (all r ss v) handled_end) (handling_alike label entry other f w database depth)

pub caught_alike : (r : Runner) (label : Option Name) (hs : List Handler) (entry other : World) (o : Outcome) (w : World) → other.database ≡ entry.database → other.depth ≡ entry.depth
    → caught r label hs other o w ≡ caught r label hs entry o w
unfolding caught
caught_alike r label hs entry other (outcome.Fail f) w database depth = handled_alike r label (handler_for hs f) entry other f w database depth
caught_alike r label hs entry other outcome.Next w database depth = ap (λ (n : ℕ). ends outcome.Next (record w { depth = n })) depth
caught_alike r label hs entry other (outcome.Exit to) w database depth = ap (λ (n : ℕ). ends (outcome.Exit to) (record w { depth = n })) depth
caught_alike r label hs entry other (outcome.Continue to) w database depth = ap (λ (n : ℕ). ends (outcome.Continue to) (record w { depth = n })) depth
caught_alike r label hs entry other (outcome.Return v) w database depth = ap (λ (n : ℕ). ends (outcome.Return v) (record w { depth = n })) depth

caught_other : (r : Runner) (label : Option Name) (hs : List Handler) (entry : World) (o : Outcome) (w : World) → ((f : Fail) → o ≢ outcome.Fail f) → caught r label hs entry o w ≡ ends o (record w { depth = entry.depth })
unfolding caught
caught_other r label hs entry (outcome.Fail f) w other = absurd (other f refl)
caught_other r label hs entry outcome.Next w other = refl
caught_other r label hs entry (outcome.Exit to) w other = refl
caught_other r label hs entry (outcome.Continue to) w other = refl
caught_other r label hs entry (outcome.Return v) w other = refl

caught_by : (r : Runner) (label : Option Name) (hs : List Handler) (entry : World) (f : Fail) (w : World) (h : Option (List Statement)) → handler_for hs f ≡ h → caught r label hs entry (outcome.Fail f) w ≡ handled_by r label h entry f w
unfolding caught
caught_by r label hs entry f w h is = ap (λ (h : Option (List Statement)). handled_by r label h entry f w) is

protected_none : (r : Runner) (label : Option Name) (ss : List Statement) (w : World) → protected r label ss [] w ≡ all r ss w
unfolding protected
protected_none r label ss w = refl

protected_some : (r : Runner) (label : Option Name) (ss : List Statement) (hs : List Handler) (w : World) → hs ≢ [] → protected r label ss hs w ≡ and_then (all r ss (deeper w)) (caught r label hs w)
unfolding protected
protected_some r label ss [] w some = absurd (some refl)
protected_some r label ss (h ∷ hs) w some = refl

-- ---- a handler

module _ {P : Type 0} {port : Ghosts P} (law : Lawful port) (r : Runner) (label : Option Name) (ss : List Statement) (f : Fail) (entry : World) where
  abbrev handler : World → Ran Outcome
  handler w = and_then (all r ss (handling label entry f w)) handled_end

  -- it has begun
  pub handler_here : (e0 e1 : Engine) (p : P) → port.fits (world e0).last p → world e1 ≡ handling label entry f (world e0) → Partway port (handler (world e0)) (and_then (all r ss (world e1)) handled_end) e0 e1 p p
  handler_here e0 e1 p fits is = quietly law
      (becomes law (start law (handler (world e0)) e0 p fits) (ap (λ (w : World). and_then (all r ss w) handled_end) (sym is)))
      (ap (λ (w : World). w.steps) is ∙ handling_steps label entry f (world e0)) (ap (λ (w : World). w.last) is ∙ handling_last label entry f (world e0))

-- ---- what is caught

module _ {P : Type 0} {port : Ghosts P} (law : Lawful port) (r : Runner) (label : Option Name) (hs : List Handler) (entry : World) (e : Engine) (p : P) (fits : port.fits (world e).last p) where
  -- a handler catches the error
  pub caught_here : (f : Fail) (ss : List Statement) → handler_for hs f ≡ Some ss → Partway port (caught r label hs entry (outcome.Fail f) (world e)) (and_then (all r ss (handling label entry f (world e))) handled_end) e e p p
  caught_here f ss is = becomes law (start law (caught r label hs entry (outcome.Fail f) (world e)) e p fits) (caught_by r label hs entry f (world e) (Some ss) is)

  -- none does
  pub uncaught : (new : Engine) (f : Fail) → handler_for hs f ≡ None → world new ≡ record (world e) { depth = entry.depth } → Done port (caught r label hs entry (outcome.Fail f) (world e)) (outcome.Fail f) e new p p
  uncaught new f none is = ended law
      (quietly law (becomes law (start law (caught r label hs entry (outcome.Fail f) (world e)) e p fits) (caught_by r label hs entry f (world e) None none))
      (ap (λ (w : World). w.steps) is) (ap (λ (w : World). w.last) is)) (sym is)

  -- there is no error
  pub unfailed : (new : Engine) (o : Outcome) → ((f : Fail) → o ≢ outcome.Fail f) → world new ≡ record (world e) { depth = entry.depth } → Done port (caught r label hs entry o (world e)) o e new p p
  unfailed new o other is = ended law
      (quietly law (becomes law (start law (caught r label hs entry o (world e)) e p fits) (caught_other r label hs entry o (world e) other))
      (ap (λ (w : World). w.steps) is) (ap (λ (w : World). w.last) is)) (sym is)

-- ---- protected statements

pub not_empty : {A : Type 0} (b : Bool) (xs : List A) → (IsTrue b ↔ (xs ≡ [])) → b ≡ false → xs ≢ []
not_empty b xs is fails none = true≢false (sym (is.1 none) ∙ fails)

module _ {P : Type 0} {port : Ghosts P} (law : Lawful port) (r : Runner) (label : Option Name) (ss : List Statement) (hs : List Handler) (e0 : Engine) (p : P) (fits : port.fits (world e0).last p) where
  -- nothing protects them
  pub unprotected_here : (ss' : List Statement) → hs ≡ [] → ss' ≡ ss → Partway port (protected r label ss hs (world e0)) (all r ss' (world e0)) e0 e0 p p
  unprotected_here ss' none is = becomes law (start law (protected r label ss hs (world e0)) e0 p fits)
      (ap (λ (hs : List Handler). protected r label ss hs (world e0)) none ∙ (protected_none r label ss (world e0) ∙ ap (λ (ss : List Statement). all r ss (world e0)) (sym is)))

  -- they begin
  pub protected_here : (e1 : Engine) (ss' : List Statement) → hs ≢ [] → ss' ≡ ss → world e1 ≡ deeper (world e0) → Partway port (protected r label ss hs (world e0)) (and_then (all r ss' (world e1)) (caught r label hs (world e0))) e0 e1 p p
  protected_here e1 ss' some same is = quietly law
      (becomes law (start law (protected r label ss hs (world e0)) e0 p fits)
      (protected_some r label ss hs (world e0) some ∙ (ap (λ (w : World). and_then (all r ss w) (caught r label hs (world e0))) (sym is)
      ∙ ap (λ (ss : List Statement). and_then (all r ss (world e1)) (caught r label hs (world e0))) (sym same))))
      (ap (λ (w : World). w.steps) is) (ap (λ (w : World). w.last) is)

-- ---- the mark at the entry

module _ (e0 e1 e2 : Engine) (n : ℕ) (grown : kept e1 ≡ with_mark (world e0).database (kept e0)) (same : kept e2 ≡ kept e1) (at : n ≡ (world e0).depth) where
  marks_are : (kept e2).marks ≡ (kept e0).marks ++ (world e0).database ∷ []
  marks_are = ap (λ (k : Kept). k.marks) (same ∙ grown)

  -- it is live
  pub mark_lives : n < (world e2).depth
  mark_lives =
      let long : length ((kept e0).marks ++ (world e0).database ∷ []) ≡ length (kept e0).marks + 1 = length-append (kept e0).marks ((world e0).database ∷ []) in
      let more : (world e2).depth ≡ length ((kept e0).marks ++ (world e0).database ∷ []) = ap (λ (ms : List Database). length ms) marks_are in
      omega (arith, at, long, more)

  -- it keeps the database of the entry
  pub mark_keeps : (world e0).database ≡ (kept_at n e2).database
  mark_keeps =
      sym (ap (λ (m : ℕ). get_or (kept e2).marks m (world e2).database) at
      ∙ (ap (λ (ms : List Database). get_or ms (length (kept e0).marks) (world e2).database) marks_are ∙ get_or-append_seam (kept e0).marks (world e0).database [] (world e2).database))

  -- without it all is kept
  pub mark_goes : (e3 : Engine) → kept e3 ≡ with_marks n (kept e2) → kept e3 ≡ kept e0
  mark_goes e3 cut =
      let ms : take n (kept e2).marks ≡ (kept e0).marks = ap (λ (m : ℕ). take m (kept e2).marks) at ∙ (ap (λ (ms : List Database). take (length (kept e0).marks) ms) marks_are ∙ take-append_seam (kept e0).marks ((world e0).database ∷ [])) in
      cut ∙ (ap (λ (ms : List Database). record (kept e2) { marks = ms }) ms ∙ ap (λ (k : Kept). record k { marks = (kept e0).marks }) (same ∙ grown))
