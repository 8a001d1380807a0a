use Rattle.pl_body_parse.proofs.Rows.{one_body}
use Rattle.pl_body_parse.proofs.laws.one_body.Goals as goal

pub returns : goal.returns
returns c = record { is = one_body }
