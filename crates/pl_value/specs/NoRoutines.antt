-- A world without routines.
use Rattle.std.specs.Prelude.{ℕ, List}
use Rattle.pl_base.specs.States.{UNDEFINED_FUNCTION}
use Rattle.pl_base.specs.declared.value.Value.{Value}
use Rattle.pl_value.specs.Reading.{Reading, fails}
use Rattle.pl_value.specs.declared.world.NoRoutines.{NoRoutines}

-- no call is known
abbrev pub unknown : List ℕ → List Value → NoRoutines → Reading NoRoutines Value
unknown routine values w = fails UNDEFINED_FUNCTION w
