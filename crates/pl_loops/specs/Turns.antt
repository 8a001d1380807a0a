-- How the code reads the ends of turns; no definition.
use Rattle.std.specs.Prelude.{if◌then◌else◌, List, Option, None, Result, Ok, Err}
use Rattle.pl_base.specs.States.{QUERY_CANCELED}
use Rattle.pl_bodies.specs.declared.statement.Statement.{Statement}
use Rattle.pl_names.specs.Names.{Name}
use Rattle.pl_engine.specs.pl_world.Control.{Test, is_own, turn}
use Rattle.pl_engine.specs.pl_world.Errors.{Spot, raised}
use Rattle.pl_engine.specs.pl_world.Running.{Runner}
use Rattle.pl_engine.specs.pl_world.World.{World, Ran, ends}
use Rattle.pl_engine.specs.pl_world.declared.outcome.Outcome.{Outcome}
use Rattle.pl_engine.specs.pl_world.declared.outcome.Outcome.TheVariants as outcome

-- the loop goes on with its next turn
abbrev pub goes : World → Ran Outcome
goes w = ends (outcome.Continue None) w

abbrev pub going_of : Outcome → Result (Unit {0}) Outcome
going_of (outcome.Continue None) = Ok tt
going_of o = Err o

-- how a loop ends behind a turn that ended so; it goes on by CONTINUE
abbrev pub turn_end : Option Name → Outcome → Outcome
turn_end label outcome.Next = outcome.Continue None
turn_end label (outcome.Exit to) = if is_own label to then outcome.Next else outcome.Exit to
turn_end label (outcome.Continue to) =
    if is_own label to then outcome.Continue None else outcome.Continue to
turn_end label o = o

-- what is asked before each turn, and a turn
abbrev pub round : Runner → Spot → Option Name → Test → List Statement → World → Ran Outcome
round r at label test body w =
    test w (λ is w. if is then turn r at label body w goes else ends outcome.Next w)

-- it is asked, and no turn is left
abbrev pub no_round : Spot → Test → World → Ran Outcome
no_round at test w =
    test w (λ is w. if is then raised QUERY_CANCELED at w else ends outcome.Next w)
