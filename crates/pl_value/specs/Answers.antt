-- How the code's answers stand to what is read.
use Rattle.std.specs.Prelude.{◌≡◌, Result, Ok, Err}
use Rattle.pl_value.specs.Reading.{Reading, got, fails}
use Rattle.pl_value.specs.declared.operand.Unsettled.{Unsettled}
use Rattle.pl_value.specs.declared.operand.Unsettled.TheVariants.{Fails, Memory}

-- the call read just this, or memory is wanting
abbrev pub Reads : {W A : Type 0} → Reading W A → Result A Unsettled → W → Type 0
Reads reading (Ok x) left = reading ≡ got x left
Reads reading (Err (Fails state)) left = reading ≡ fails state left
Reads reading (Err Memory) left = Unit {0}
