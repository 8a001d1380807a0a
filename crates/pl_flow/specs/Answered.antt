-- How the code reads answers to what statements ask; no definition.
use Rattle.std.specs.Prelude.{ℤ, Bool, Result, Ok, Err}
use Rattle.pl_base.specs.declared.value.Value.TheVariants.{Int}
use Rattle.pl_value.specs.Combined.{is_true}
use Rattle.pl_engine.specs.pl_world.declared.outcome.Outcome.{Outcome}
use Rattle.pl_engine.specs.pl_world.declared.outcome.Outcome.TheVariants as outcome

-- an outcome that is no answer ends the statement

-- the truth that was answered, null as false
abbrev pub truth_of : Outcome → Result Bool Outcome
truth_of (outcome.Return v) = Ok (is_true v)
truth_of o = Err o

-- the integer that was answered
abbrev pub number_of : Outcome → Result ℤ Outcome
number_of (outcome.Return (Int z)) = Ok z
number_of o = Err o
