use Rattle.pl_natural.proofs.Told.{told}
use Rattle.pl_natural.proofs.laws.answers_tell.Goals as goal

pub returns : goal.returns
returns g c = record { told = told }
