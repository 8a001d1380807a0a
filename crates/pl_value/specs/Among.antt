-- IN, read on behind operands that were read.
use Rattle.std.specs.Prelude.{Bool, true, false, List, [], Option, Some, None, Ok}
use Rattle.pl_base.specs.declared.types.Ty.{Ty}
use Rattle.pl_base.specs.declared.value.Value.{Value}
use Rattle.pl_base.specs.declared.value.Value.TheVariants.{Bool as Truth}
use Rattle.pl_calc.specs.Answer.{Answer}
use Rattle.pl_value.specs.Combined.{among}
use Rattle.pl_value.specs.Meaning.{Part, values}
use Rattle.pl_value.specs.Reading.{then_read, settled}

-- what IN gives, where this is the truth of it among the operands so far
abbrev pub among_from : Ty → Value → Option Bool → List Value → Answer
among_from to x (Some true) vs = Ok (Truth true)
among_from to x (Some false) vs = among to x false vs
among_from to x None vs = among to x true vs

abbrev pub rest_among : {W : Type 0} → Ty → Value → Option Bool → List (Part W) → Part W
rest_among to x so_far ps frame w =
    then_read (values ps [] frame w) (λ vs w. settled (among_from to x so_far vs) w)
