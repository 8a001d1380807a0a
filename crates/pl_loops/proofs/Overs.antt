-- The variable of a FOR, and FOUND behind it.
use Rattle.std.proofs.Common.{◌≡◌, ◌<◌, ◌∙◌, arith, Bool, ℕ, ℤ, zero, suc, true, false, List, Option, ap, nat_lt, refl, sym}
use Rattle.std.proofs.lemmas.Bool.{lt-ltb}
use Rattle.pl_base.specs.declared.types.Ty.{Ty}
use Rattle.pl_base.specs.declared.types.Ty.TheVariants.{Int as Integer}
use Rattle.pl_base.specs.declared.value.Value.{Value}
use Rattle.pl_base.specs.declared.value.Value.TheVariants.{Null}
use Rattle.pl_bodies.specs.declared.statement.Statement.{Statement}
use Rattle.pl_engine.proofs.Joins.{Lawful, becomes, quietly, start}
use Rattle.pl_engine.specs.Answers.{Partway}
use Rattle.pl_engine.specs.Engines.{Quiet, world}
use Rattle.pl_engine.specs.declared.engine.Engine.{Engine}
use Rattle.pl_engine.specs.declared.port.Port.{Ghosts}
use Rattle.pl_loops.specs.Ranges.{numbers_in}
use Rattle.pl_loops.specs.declared.ranges.Counting.{Counting}
use Rattle.pl_flow.proofs.Overs.{closed_last, closed_steps, opened_last, opened_steps}
use Rattle.pl_names.specs.Names.{Name}
use Rattle.pl_engine.specs.pl_world.Control.{counted_from, each, for_left, over_numbers, with_turns}
use Rattle.pl_engine.specs.pl_world.Errors.{Spot}
use Rattle.pl_engine.specs.pl_world.Running.{Runner}
use Rattle.pl_engine.specs.pl_world.Variables.{closed, declared, newest_place, opened, with_found}
use Rattle.pl_engine.specs.pl_world.World.{World, and_then}
use Rattle.pl_engine.specs.pl_world.declared.outcome.Outcome.{Outcome}
use Rattle.pl_engine.specs.pl_world.declared.outcome.Outcome.TheVariants as outcome

declared_steps : (name : Name) (ty : Ty) (v : Value) (w : World) → (declared name ty false v w).steps ≡ w.steps
unfolding declared
declared_steps name ty v w = refl

declared_last : (name : Name) (ty : Ty) (v : Value) (w : World) → (declared name ty false v w).last ≡ w.last
unfolding declared
declared_last name ty v w = refl

over_is : (r : Runner) (at : Spot) (label : Option Name) (variable : Name) (body : List Statement) (zs : List ℤ) (w : World)
    → over_numbers r at label variable body zs w ≡ and_then (each r at label (newest_place (declared variable Integer false Null (opened label w))) body zs (declared variable Integer false Null (opened label w))) (for_left zs)
unfolding over_numbers
over_is r at label variable body zs w = refl

module _ {P : Type 0} {port : Ghosts P} (law : Lawful port) (r : Runner) (at : Spot) (label : Option Name) (variable : Name) (body : List Statement) (zs : List ℤ) where
  pub over_here : (e0 e1 e2 : Engine) (p : P) (to : ℕ) → port.fits (world e0).last p → world e1 ≡ opened label (world e0) → world e2 ≡ declared variable Integer false Null (world e1) → to ≡ newest_place (world e2)
      → Partway port (over_numbers r at label variable body zs (world e0)) (and_then (each r at label to body zs (world e2)) (for_left zs)) e0 e2 p p
  over_here e0 e1 e2 p to fits one two place =
      let both : world e2 ≡ declared variable Integer false Null (opened label (world e0)) = two ∙ ap (λ (w : World). declared variable Integer false Null w) one in
      quietly law (becomes law (start law (over_numbers r at label variable body zs (world e0)) e0 p fits)
      (over_is r at label variable body zs (world e0) ∙ (ap (λ (w : World). and_then (each r at label (newest_place w) body zs w) (for_left zs)) (sym both)
      ∙ ap (λ (n : ℕ). and_then (each r at label n body zs (world e2)) (for_left zs)) (sym place))))
      (ap (λ (w : World). w.steps) both ∙ (declared_steps variable Integer Null (opened label (world e0)) ∙ opened_steps label (world e0)))
      (ap (λ (w : World). w.last) both ∙ (declared_last variable Integer Null (opened label (world e0)) ∙ opened_last label (world e0)))

-- FOUND is whether there was a turn
some_found : (n : ℕ) (w : World) → with_found true w ≡ with_found (nat_lt 0 (suc n)) w
some_found n w = let more : 0 < suc n = omega arith in ap (λ (b : Bool). with_found b w) (sym (lt-ltb 0 (suc n) more))

found_by : (n : ℕ) (z by : ℤ) (o : Outcome) (w : World) → ((f : _) → o ≡ outcome.Fail f → ⊥) → with_turns (counted_from z by n) o w ≡ with_found (nat_lt 0 n) w
found_by zero z by outcome.Next w other = refl
found_by zero z by (outcome.Exit to) w other = refl
found_by zero z by (outcome.Continue to) w other = refl
found_by zero z by (outcome.Return v) w other = refl
found_by zero z by (outcome.Fail f) w other = absurd (other f refl)
found_by (suc n) z by outcome.Next w other = some_found n w
found_by (suc n) z by (outcome.Exit to) w other = some_found n w
found_by (suc n) z by (outcome.Continue to) w other = some_found n w
found_by (suc n) z by (outcome.Return v) w other = some_found n w
found_by (suc n) z by (outcome.Fail f) w other = absurd (other f refl)

module _ (range : Counting) (o : Outcome) (old mid : Engine) (shut : world mid ≡ closed (world old)) where
  pub left_failed : (o' : Outcome) (f : _) → o ≡ outcome.Fail f → o' ≡ o → Quiet (for_left (numbers_in range) o (world old)) o' old mid
  left_failed o' f fails same = (ap (λ (x : Outcome). with_turns (numbers_in range) x (closed (world old))) fails ∙ sym shut, sym same, refl, refl, ap (λ (w : World). w.steps) shut ∙ closed_steps (world old), ap (λ (w : World). w.last) shut ∙ closed_last (world old))

  pub left_found : (o' : Outcome) (new : Engine) → ((f : _) → o ≡ outcome.Fail f → ⊥) → world new ≡ with_found (nat_lt 0 range.count) (world mid) → o' ≡ o → Quiet (for_left (numbers_in range) o (world old)) o' old new
  left_found o' new other found same = (
    found_by range.count range.first range.step o (closed (world old)) other ∙ (ap (λ (w : World). with_found (nat_lt 0 range.count) w) (sym shut) ∙ sym found),
    sym same,
    refl,
    refl,
    ap (λ (w : World). w.steps) found ∙ (ap (λ (w : World). w.steps) shut ∙ closed_steps (world old)),
    ap (λ (w : World). w.last) found ∙ (ap (λ (w : World). w.last) shut ∙ closed_last (world old)),
  )
