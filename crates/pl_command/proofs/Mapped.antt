-- Runs whose end is read as another one.
use Rattle.std.proofs.Common.{◌≡◌, ◌∙◌, ap, refl}
use Rattle.pl_control.specs.pl_engine.Answers.{Done, Stopped}
use Rattle.pl_control.specs.pl_engine.declared.engine.Engine.{Engine}
use Rattle.pl_control.specs.pl_engine.declared.port.Port.{Ghosts}
use Rattle.pl_control.specs.pl_engine.declared.stop.Stop.{Stop}
use Rattle.pl_world.specs.Laws.{events}
use Rattle.pl_world.specs.World.{Ran, made}

abbrev pub mapped : {A B : Type 0} → (A → B) → Ran A → Ran B
mapped f (made w o es) = made w (f o) es

events_mapped : {A B : Type 0} (f : A → B) (ran : Ran A) → events (mapped f ran) ≡ events ran
events_mapped f (made w o es) = refl

module _ {A B P : Type 0} {port : Ghosts P} (f : A → B) {ran : Ran A} {old : Engine} {p q : P} where
  pub mapped_done : {o : A} {new : Engine} → Done port ran o old new p q → Done port (mapped f ran) (f o) old new p q
  mapped_done {o} {new} d = record {
    events = d.events;
    gives = ap (λ (r : Ran A). mapped f r) d.gives;
    told = d.told;
  }

  pub mapped_stopped : {stop : Stop} → Stopped port ran stop old p q → Stopped port (mapped f ran) stop old p q
  mapped_stopped s = record { front = s.front; rest = s.rest; are = events_mapped f ran ∙ s.are; cut = s.cut }
