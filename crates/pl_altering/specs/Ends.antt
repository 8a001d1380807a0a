-- Changes, as they are answered.
use Rattle.std.specs.Prelude.{List, [], ◌∷◌, Result}
use Rattle.pl_base.specs.declared.fail.Fail.{Fail}
use Rattle.pl_querying.specs.pl_calling.Ends.{settles}
use Rattle.pl_tables.specs.Named.{rows_named}
use Rattle.pl_targets.specs.declared.change.RChange.{RChange}
use Rattle.pl_value.specs.Frames.{Row}
use Rattle.pl_value.specs.Reading.{Reading}
use Rattle.pl_world.specs.Calls.{Within}
use Rattle.pl_world.specs.Changes.{changed, does, setting}
use Rattle.pl_world.specs.Commands.{finished}
use Rattle.pl_world.specs.Errors.{Spot}
use Rattle.pl_world.specs.Expressions.{begun}
use Rattle.pl_world.specs.Running.{Runner}
use Rattle.pl_world.specs.Variables.{row_of}
use Rattle.pl_world.specs.World.{Ran, World}

-- what a change does, once it has begun
abbrev pub done_from : Runner → Spot → RChange → World → Reading Within (List Row)
done_from r at change w =
    does (setting r at change w) (row_of w.frame ∷ [])
    (rows_named change.table w.database.tables) change.what (begun w)

-- its rows, or the error, once it has ended
abbrev pub changes : Runner → Spot → RChange → World → Ran (Result (List Row) Fail)
changes r at change w = settles (finished (changed r at change w)) at
