-- Expressions and queries within statements, as they are answered.
use Rattle.std.specs.Prelude.{List, [], ◌++◌, Result, Ok, Err}
use Rattle.pl_base.specs.declared.fail.Fail.{Fail}
use Rattle.pl_engine.specs.Asks.{returned}
use Rattle.pl_resolved.specs.declared.query.RQuery.{RQuery}
use Rattle.pl_engine.specs.pl_scope.declared.resolve.ResolvedExpr.{ResolvedExpr}
use Rattle.pl_value.specs.Frames.{Row}
use Rattle.pl_value.specs.Meaning.{Sub}
use Rattle.pl_value.specs.Reading.{got}
use Rattle.pl_engine.specs.pl_world.Errors.{Spot}
use Rattle.pl_engine.specs.pl_world.Expressions.{read, reads, rows_over, value_over}
use Rattle.pl_engine.specs.pl_world.Running.{Runner}
use Rattle.pl_engine.specs.pl_world.Variables.{row_of}
use Rattle.pl_engine.specs.pl_world.World.{World, Ran, ends}
use Rattle.pl_engine.specs.pl_world.declared.outcome.Outcome.{Outcome}

-- the value of an expression, with further values behind the variables
abbrev pub read_beside : Runner → Spot → ResolvedExpr → Row → World → Ran Outcome
read_beside r at e beside w = read (value_over r at e (row_of w.frame ++ beside) w) at returned

-- the rows of a query, or the error
abbrev pub rows_read : Runner → Spot → List RQuery → World → Ran (Result (List Row) Fail)
rows_read r at queries w = reads Err (rows_over r at queries w) at (λ rows w. ends (Ok rows) w)

-- no query stands inside
abbrev pub no_rows : {W : Type 0} → Sub W
no_rows query frame w = got [] w
