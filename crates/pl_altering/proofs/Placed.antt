-- Rows of RETURNING that go nowhere.
use Rattle.std.proofs.Common.{◌≡◌, ◌↔◌, ◌∙◌, Bool, IsTrue, List, [], ◌∷◌, false, refl, subst, sym, true≢false}
use Rattle.pl_base.specs.States.{SYNTAX_ERROR}
use Rattle.pl_querying.specs.pl_engine.Engines.{Quiet, world}
use Rattle.pl_querying.specs.pl_engine.declared.engine.Engine.{Engine}
use Rattle.pl_resolved.specs.declared.query.Head.{Head}
use Rattle.pl_world.specs.Commands.{unless_returning}
use Rattle.pl_world.specs.Errors.{Spot, raised}
use Rattle.pl_world.specs.declared.outcome.Outcome.{Outcome}
use Rattle.pl_world.specs.declared.outcome.Outcome.TheVariants as outcome

-- there are none
pub none_shown : (heads : List Head) (at : Spot) (e : Engine) → heads ≡ [] → Quiet (unless_returning heads at (world e)) outcome.Next e e
none_shown heads at e none = subst (λ (hs : List Head). Quiet (unless_returning hs at (world e)) outcome.Next e e) (sym none) (refl, refl, refl, refl, refl, refl)

-- there are some
pub some_shown : (heads : List Head) (b : Bool) (at : Spot) (e : Engine) (o : Outcome) → (IsTrue b ↔ (heads ≡ [])) → b ≡ false → Quiet (raised SYNTAX_ERROR at (world e)) o e e → Quiet (unless_returning heads at (world e)) o e e
some_shown [] b at e o is fails quiet = absurd (true≢false (sym (is.1 refl) ∙ fails))
some_shown (head ∷ heads) b at e o is fails quiet = quiet
