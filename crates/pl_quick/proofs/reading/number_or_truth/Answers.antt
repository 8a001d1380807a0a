use Rattle.std.proofs.Common.{◌∙◌, ap}
use Rattle.std.proofs.lemmas.Option.{IfSome_then}
use Rattle.pl_base.specs.declared.value.Value.{Value}
use Rattle.pl_quick.proofs.reading.number_or_truth.Goals as goal
use Rattle.pl_value.specs.Reading.{got}

pub returns-in-Some : goal.returns-in-Some
returns-in-Some g c = IfSome_then c.known.result c.known.ensures (λ k same calls sub w. c.in-Some.ensures calls sub w ∙ ap (λ (v : Value). got v w) same)
