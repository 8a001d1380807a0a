use Rattle.std.proofs.Common.{◌∙◌, ap, Bool, Option}
use Rattle.pl_calc.specs.Logic.{truth_value}
use Rattle.pl_quick.proofs.reading.plain_truth.Goals as goal
use Rattle.pl_value.specs.Reading.{got}

pub returns-in-Some-Some : goal.returns-in-Some-Some
returns-in-Some-Some g c = λ calls sub w. c.in-Some-Some.ensures calls sub w ∙ ap (λ (t : Option Bool). got (truth_value t) w) c.in-Some-Some.field-0-is
