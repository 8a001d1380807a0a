use Rattle.pl_natural.proofs.Rows.{rows_agree}
use Rattle.pl_natural.proofs.laws.rows_agree.Goals as goal

pub returns : goal.returns
returns g c = record { rows = rows_agree }
