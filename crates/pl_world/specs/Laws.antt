-- Words of laws about runs. No definition of what a statement does is here.
use Rattle.std.specs.Prelude.{List}
use Rattle.pl_world.specs.World.{Event, Ran, World, made}
use Rattle.pl_world.specs.declared.outcome.Outcome.{Outcome}
use Rattle.pl_world.specs.declared.outcome.Outcome.TheVariants as outcome

abbrev pub events : {O : Type 0} → Ran O → List Event
events (made w o es) = es

abbrev pub world_behind : {O : Type 0} → Ran O → World
world_behind (made w o es) = w

abbrev pub end_of : {O : Type 0} → Ran O → O
end_of (made w o es) = o

-- what comes behind a run
abbrev pub goes_on : {A B : Type 0} → Ran A → (A → World → Ran B) → Ran B
goes_on (made w x es) k = k x w

abbrev pub IsFail : Outcome → Type 0
IsFail (outcome.Fail f) = Unit {0}
IsFail o = ⊥
