-- The first row goes into variables, behind what is counted.
use Rattle.std.proofs.Common.{◌≡◌, ◌∙◌, ℕ, ap, subst}
use Rattle.pl_asking.specs.pl_engine.Engines.{Quiet, world}
use Rattle.pl_asking.specs.pl_engine.declared.engine.Engine.{Engine}
use Rattle.pl_world.specs.Variables.{counted}
use Rattle.pl_world.specs.World.{Ran, World, made}
use Rattle.pl_world.specs.declared.outcome.Outcome.{Outcome}

-- an act in the world that is counted, of an engine that has counted
pub after_counting : (n : ℕ) (k : World → Ran Outcome) (o : Outcome) (old mid new : Engine) → world mid ≡ counted n (world old) → Quiet (k (world mid)) o mid new → Quiet (k (counted n (world old))) o old new
unfolding counted
after_counting n k o old mid new is quiet =
    let steps : mid.steps ≡ old.steps = ap (λ (w : World). w.steps) is in
    let last : (world mid).last ≡ (world old).last = ap (λ (w : World). w.last) is in
    moved (k (world mid)) (k (counted n (world old))) (ap k is) steps last quiet
  where
    moved : (r s : Ran Outcome) → r ≡ s → mid.steps ≡ old.steps → (world mid).last ≡ (world old).last → Quiet r o mid new → Quiet s o old new
    moved (made w x es) s same steps last (a, b, c, d, e, f) = subst (λ (ran : Ran Outcome). Quiet ran o old new) same (a, b, c, d, e ∙ steps, f ∙ last)
