-- The error that a call handles.
use Rattle.std.proofs.Common.{◌≡◌, ◌-◌, ◌∙◌, ℕ, List, [], ◌∷◌, Option, Some, None, ap, arith, get_or, length, map, refl, reverse, slice_get, sym}
use Rattle.std.proofs.lemmas.List.{get_or-reverse, length-reverse}
use Rattle.std.proofs.lemmas.Option.{slice_get-get_or}
use Rattle.pl_base.specs.States.{STACKED_DIAGNOSTICS_ACCESSED_WITHOUT_ACTIVE_HANDLER}
use Rattle.pl_base.specs.declared.fail.Fail.{Fail}
use Rattle.pl_bodies.specs.declared.simple.StackedTarget.{StackedTarget}
use Rattle.pl_world.specs.Assigning.{put_each, stacked, stacked_by, stacked_diagnosed}
use Rattle.pl_world.specs.Errors.{Spot, raised, raises}
use Rattle.pl_world.specs.Raising.{again, again_by}
use Rattle.pl_world.specs.World.{Ran, World}
use Rattle.pl_world.specs.declared.outcome.Outcome.{Outcome}
use Rattle.pl_world.specs.declared.outcome.Outcome.TheVariants as outcome

-- the last that was added is the newest
pub newest_is : (fs : List Fail) → slice_get (reverse fs) 0 ≡ slice_get fs (length fs - 1)
newest_is [] = refl
newest_is (f ∷ fs) =
    let long : length (reverse (f ∷ fs)) ≡ length (f ∷ fs) = length-reverse (f ∷ fs) in
    slice_get-get_or (reverse (f ∷ fs)) 0 f (omega (arith, long))
    ∙ (ap (λ (g : Fail). Some g) (get_or-reverse (f ∷ fs) 0 f (omega arith) ∙ ap (λ (i : ℕ). get_or (f ∷ fs) i f) (omega arith)) ∙ sym (slice_get-get_or (f ∷ fs) (length (f ∷ fs) - 1) f (omega arith)))

abbrev first_or : Fail → Option Fail → Fail
first_or f None = f
first_or f (Some g) = g

-- what is done with the first of them
module _ (of : List Fail → Ran Outcome) (one : Fail → Ran Outcome) (same : (f : Fail) (fs : List Fail) → of (f ∷ fs) ≡ one f) where
  with_first : (fs : List Fail) (f : Fail) → Some f ≡ slice_get fs 0 → of fs ≡ one f
  with_first [] f is = absurd cc
  with_first (g ∷ fs) f is = same g fs ∙ ap (λ (x : Option Fail). one (first_or f x)) (sym is)

none_first : (fs : List Fail) → None ≡ slice_get fs 0 → fs ≡ []
none_first [] is = refl
none_first (g ∷ fs) is = absurd cc

module _ (at : Spot) (w : World) where
  pub again_first : (f : Fail) → Some f ≡ slice_get w.frame.handled 0 → again at w ≡ raises outcome.Fail f w
  unfolding again
  again_first f is = with_first (λ fs. again_by fs at w) (λ f. raises outcome.Fail f w) (λ f fs. refl) w.frame.handled f is

  pub again_none : None ≡ slice_get w.frame.handled 0 → again at w ≡ raised STACKED_DIAGNOSTICS_ACCESSED_WITHOUT_ACTIVE_HANDLER at w
  unfolding again
  again_none is = ap (λ (fs : List Fail). again_by fs at w) (none_first w.frame.handled is)

  module _ (targets : List StackedTarget) where
    pub stacked_first : (f : Fail) → Some f ≡ slice_get w.frame.handled 0 → stacked_diagnosed targets at w ≡ put_each (map (stacked f) targets) at w
    unfolding stacked_diagnosed
    stacked_first f is = with_first (λ fs. stacked_by fs targets at w) (λ f. put_each (map (stacked f) targets) at w) (λ f fs. refl) w.frame.handled f is

    pub stacked_none : None ≡ slice_get w.frame.handled 0 → stacked_diagnosed targets at w ≡ raised STACKED_DIAGNOSTICS_ACCESSED_WITHOUT_ACTIVE_HANDLER at w
    unfolding stacked_diagnosed
    stacked_none is = ap (λ (fs : List Fail). stacked_by fs targets at w) (none_first w.frame.handled is)
