-- Statements one after another.
use Rattle.std.proofs.Common.{◌≡◌, ◌≢◌, ◌<◌, ◌≤◌, ◌+◌, ◌∙◌, ℕ, List, [], ◌∷◌, add-one, ap, drop, drop-cons, drop_of_length-le, get_or, length, refl, subst}
use Rattle.pl_bodies.specs.declared.statement.Statement.{Statement}
use Rattle.pl_engine.proofs.Joins.{Lawful, becomes, ended, on, stopped, within}
use Rattle.pl_engine.specs.Answers.{Done, Partway, Stopped}
use Rattle.pl_engine.specs.Engines.{world}
use Rattle.pl_engine.specs.declared.engine.Engine.{Engine}
use Rattle.pl_engine.specs.declared.port.Port.{Ghosts}
use Rattle.pl_engine.specs.declared.stop.Stop.{Stop}
use Rattle.pl_world.specs.Running.{Runner, all, on_next, statement}
use Rattle.pl_world.specs.World.{Ran, World, and_then, ends}
use Rattle.pl_world.specs.declared.outcome.Outcome.{Outcome}
use Rattle.pl_world.specs.declared.outcome.Outcome.TheVariants as outcome

all_cons : (r : Runner) (s : Statement) (rest : List Statement) (w : World) → all r (s ∷ rest) w ≡ and_then (r.run (statement s) w) (on_next (λ w. all r rest w))
unfolding all
all_cons r s rest w = refl

all_nil : (r : Runner) (w : World) → all r [] w ≡ ends outcome.Next w
unfolding all
all_nil r w = refl

front : (xs : List Statement) (i : ℕ) (s : Statement) → i < length xs → s ≡ get_or xs i s → drop i xs ≡ s ∷ drop (i + 1) xs
front xs i s lt is = rw (add-one, drop-cons xs i s lt, ← is) refl

module _ {P : Type 0} {port : Ghosts P} (law : Lawful port) {whole : Ran Outcome} {old mid : Engine} {p m : P} (r : Runner) (xs : List Statement) (i : ℕ) (s : Statement) (lt : i < length xs) (is : s ≡ get_or xs i s)
    (w : Partway port whole (all r (drop i xs) (world mid)) old mid p m) where
  abbrev rest : World → Ran Outcome
  rest w = all r (drop (i + 1) xs) w

  here : Partway port whole (and_then (r.run (statement s) (world mid)) (on_next rest)) old mid p m
  here = becomes law w (ap (λ (ys : List Statement). all r ys (world mid)) (front xs i s lt is) ∙ all_cons r s (drop (i + 1) xs) (world mid))

  pub all_on : {new : Engine} {q : P} (o : Outcome) → Done port (r.run (statement s) (world mid)) o mid new m q → o ≡ outcome.Next → Partway port whole (all r (drop (i + 1) xs) (world new)) old new p q
  all_on {new} {q} o d next = on law (on_next rest) here (subst (λ (o : Outcome). Done port (r.run (statement s) (world mid)) o mid new m q) next d)

  pub all_off : {new : Engine} {q : P} (o : Outcome) → Done port (r.run (statement s) (world mid)) o mid new m q → o ≢ outcome.Next → Done port whole o old new p q
  all_off outcome.Next d other = absurd (other refl)
  all_off (outcome.Exit to) d other = ended law (on law (on_next rest) here d) refl
  all_off (outcome.Continue to) d other = ended law (on law (on_next rest) here d) refl
  all_off (outcome.Return v) d other = ended law (on law (on_next rest) here d) refl
  all_off (outcome.Fail f) d other = ended law (on law (on_next rest) here d) refl

  pub all_stopped : {stop : Stop} {q : P} → Stopped port (r.run (statement s) (world mid)) stop mid m q → Stopped port whole stop old p q
  all_stopped d = stopped law here (within law (on_next rest) d)

pub all_ended : {P : Type 0} {port : Ghosts P} (law : Lawful port) {whole : Ran Outcome} {old new : Engine} {p q : P} (r : Runner) (xs : List Statement) (i : ℕ) → length xs ≤ i
    → Partway port whole (all r (drop i xs) (world new)) old new p q → Done port whole outcome.Next old new p q
all_ended law {whole} {old} {new} r xs i le way =
    ended law (becomes law way (ap (λ (ys : List Statement). all r ys (world new)) (drop_of_length-le xs le) ∙ all_nil r (world new))) refl
