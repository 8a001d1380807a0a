use Rattle.pl_natural.proofs.Values.{value_agrees}
use Rattle.pl_natural.proofs.laws.values_agree.Goals as goal

pub returns : goal.returns
returns g c = record { values = value_agrees }
