-- Calls that are entered so that their statements are planned, and are left again.
use Rattle.std.proofs.Common.{◌≡◌, ◌∙◌, ◌∷◌, ℕ, Bool, List, ap, drop, refl, subst}
use Rattle.pl_base.specs.declared.value.Value.{Value}
use Rattle.pl_bodies.specs.declared.statement.Block.{out-Block}
use Rattle.pl_bodies.specs.declared.statement.Statement.{Statement}
use Rattle.pl_engine.specs.Engines.{Kept, kept, with_call, world}
use Rattle.pl_engine.specs.declared.engine.Engine.{Engine}
use Rattle.pl_engine.specs.pl_world.Calls.{popped}
use Rattle.pl_engine.specs.pl_world.World.{Static, World}
use Rattle.pl_names.specs.Names.{Name}
use Rattle.pl_quick.specs.Acts.{AreFor, AreWithin}
use Rattle.pl_quick.specs.declared.act.Act.{Act}
use Rattle.pl_quick.specs.declared.callees.Callee.{Callee}

popped_call : (routine : Name) (is_command : Bool) (static : Static) (values : List Value) (w : World) → popped (with_call routine is_command static values w) ≡ w
unfolding popped
popped_call routine is_command static values w = refl

module _ (routine : Name) (is_command : Bool) (static : Static) (values : List Value) (e0 e1 e2 e3 : Engine) where
  -- the world is as it was
  pub gone : world e1 ≡ with_call routine is_command static values (world e0) → world e2 ≡ world e1 → world e3 ≡ popped (world e2) → world e3 ≡ world e0
  gone entering same leaving = leaving ∙ (ap (λ (w : World). popped w) (same ∙ entering) ∙ popped_call routine is_command static values (world e0))

pub gone_keeps : (e0 e1 e2 e3 : Engine) → kept e1 ≡ record (kept e0) { below = (world e0).frame ∷ (world e0).below } → kept e2 ≡ kept e1 → world e2 ≡ world e1 → kept e3 ≡ record (kept e2) { below = drop 1 (world e2).below } → kept e3 ≡ kept e0
gone_keeps e0 e1 e2 e3 entering keeps same leaving = leaving ∙ ap (λ (k : Kept). record k { below = drop 1 k.below }) (keeps ∙ entering)

-- the acts are what the statements do where the call is entered
pub made_within : (n : ℕ) (acts : List Act) (c : Callee) (ss : List Statement) (routine : Name) (is_command : Bool) (values : List Value) (w w1 : World) → ss ≡ (out-Block c.body.block).statements → w1 ≡ with_call routine is_command c.declared values w → AreFor n acts ss w1 → AreWithin n acts c w
made_within n acts c ss routine is_command values w w1 same entering stand =
    subst (λ (ss : List Statement). AreFor n acts ss (with_call routine is_command c.declared values w)) same (subst (λ (w : World). AreFor n acts ss w) entering stand)
