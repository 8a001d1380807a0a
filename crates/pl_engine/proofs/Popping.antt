-- Calls that are entered and left.
use Rattle.std.proofs.Common.{◌≡◌, ℕ, List, [], ◌∷◌, ap, drop, length, map, refl, suc}
use Rattle.pl_engine.specs.Engines.{frame_of, kept, world}
use Rattle.pl_engine.specs.declared.call.Call.{Call}
use Rattle.pl_engine.specs.declared.engine.Engine.{Engine}
use Rattle.pl_variables.specs.Frames.{left, left_by}
use Rattle.pl_variables.specs.declared.frames.Frame.{Frame}
use Rattle.pl_world.specs.Calls.{popped, popped_by}

counted_in : (fs : List (Frame Call)) → length fs ≡ length (map frame_of fs)
counted_in [] = refl
counted_in (f ∷ fs) = ap (λ (n : ℕ). suc n) (counted_in fs)

pub counted : (e : Engine) → length e.frames.below ≡ length (world e).below
counted e = counted_in e.frames.below

left_world : (e : Engine) (fs : List (Frame Call)) → world (record e { frames = left_by fs e.frames }) ≡ popped_by (map frame_of fs) (world e)
left_world e [] = refl
left_world e (f ∷ fs) = refl

pub left_call : (e : Engine) → world (record e { frames = left e.frames }) ≡ popped (world e)
unfolding popped
left_call e = left_world e e.frames.below

left_stays : (e : Engine) (fs : List (Frame Call)) → e.frames.below ≡ fs → kept (record e { frames = left_by fs e.frames }) ≡ record (kept e) { below = drop 1 (map frame_of fs) }
left_stays e [] is = ap (λ (fs : List (Frame Call)). record (kept e) { below = map frame_of fs }) is
left_stays e (f ∷ fs) is = refl

pub left_kept : (e : Engine) → kept (record e { frames = left e.frames }) ≡ record (kept e) { below = drop 1 (world e).below }
left_kept e = left_stays e e.frames.below refl
