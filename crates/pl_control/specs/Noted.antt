-- Definitions and their notices, whatever they are part of.
use Rattle.std.specs.Prelude.{ℕ, List, Option, Result, Ok, Err}
use Rattle.pl_base.specs.declared.fail.Fail.{Fail}
use Rattle.pl_base.specs.declared.state.State.{State}
use Rattle.pl_tree.specs.declared.command.Definition.{Definition}
use Rattle.pl_engine.specs.pl_world.Commands.{defines, noticed}
use Rattle.pl_engine.specs.pl_world.Errors.{Spot}
use Rattle.pl_engine.specs.pl_world.World.{World, Ran}

-- it is done, or has an error
abbrev pub Done : Type 0
Done = Result (Unit {0}) Fail

abbrev pub no : Fail → Done
no f = Err f

abbrev pub yes : Done
yes = Ok tt

abbrev pub notes : Option State → World → Ran Done
notes notice w = noticed notice yes w

abbrev pub defined : Spot → Option Definition → List ℕ → World → Ran Done
defined at d source w = defines no yes at d source w
