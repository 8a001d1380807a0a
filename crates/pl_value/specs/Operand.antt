-- What an operand is.
use Rattle.pl_base.specs.declared.value.Value.{Value}
use Rattle.pl_value.specs.declared.operand.Inner.{Inner}
use Rattle.pl_value.specs.declared.operand.Inner.TheVariants.{Lent, Made}

abbrev pub operand : Inner → Value
operand (Lent v) = v.now
operand (Made v) = v
