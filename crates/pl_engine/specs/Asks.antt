-- What statements have their expressions asked, and how each is answered.
use Rattle.std.specs.Prelude.{ℤ, Bool}
use Rattle.pl_base.specs.declared.value.Value.{Value}
use Rattle.pl_base.specs.declared.value.Value.TheVariants.{Bool as Truth, Int}
use Rattle.pl_engine.specs.declared.asking.Ask.{Ask}
use Rattle.pl_engine.specs.declared.asking.Ask.TheVariants as ask
use Rattle.pl_world.specs.Blocks.{one_declared}
use Rattle.pl_world.specs.Control.{bound, tested}
use Rattle.pl_world.specs.Errors.{Spot}
use Rattle.pl_world.specs.Running.{Runner}
use Rattle.pl_world.specs.World.{World, Ran, ends}
use Rattle.pl_world.specs.declared.outcome.Outcome.{Outcome}
use Rattle.pl_world.specs.declared.outcome.Outcome.TheVariants as outcome

-- a truth is the answer
abbrev pub truth : Bool → World → Ran Outcome
truth b w = ends (outcome.Return (Truth b)) w

-- a number is
abbrev pub number : ℤ → World → Ran Outcome
number z w = ends (outcome.Return (Int z)) w

-- a value is
abbrev pub returned : Value → World → Ran Outcome
returned v w = ends (outcome.Return v) w

abbrev pub asked : Runner → Spot → Ask → World → Ran Outcome
asked r at (ask.Test e) w = tested r at e.now w truth
asked r at (ask.Bound e) w = bound r at e.now w number
asked r at (ask.Declare d) w = one_declared r at d.now.name d.now.kind w
