-- The values of the examples: the world over an empty database, an error that arises in it, and the
-- beginning of a handler of that error, in a block with the label b.
use Rattle.std.specs.Prelude.{Some, codes}
use Rattle.pl_base.specs.States.{DIVISION_BY_ZERO}
use Rattle.pl_base.specs.declared.fail.Fail.{Fail}
use Rattle.pl_meaning.specs.Operation.{empty}
use Rattle.pl_meaning.specs.pl_names.Names.{Around}
use Rattle.pl_meaning.specs.pl_scope.Resolution.{standing}
use Rattle.pl_world.specs.Blocks.{handling}
use Rattle.pl_world.specs.Errors.{failure}
use Rattle.pl_world.specs.Sessions.{new_world, top}
use Rattle.pl_world.specs.World.{World}

abbrev pub empty_world : World
empty_world = new_world empty

abbrev pub some_error : Fail
some_error = failure DIVISION_BY_ZERO top empty_world

abbrev pub in_handler : World
in_handler = handling (Some (codes "b")) empty_world some_error empty_world

-- what names mean in it
abbrev pub names_there : Around
names_there = standing in_handler.database.objects in_handler.frame.static.scope
