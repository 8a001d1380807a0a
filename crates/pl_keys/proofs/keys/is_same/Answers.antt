use Rattle.pl_keys.proofs.Plain.{equal_rows}
use Rattle.pl_keys.proofs.keys.is_same.Goals as goal

pub returns-clause-equal : goal.returns-clause-equal
returns-clause-equal c = equal_rows c.have_same_values.result c.args.row.now c.args.other.now c.have_same_values.ensures
