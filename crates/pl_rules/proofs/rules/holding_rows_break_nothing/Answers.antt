use Rattle.pl_rules.proofs.Holding.{all_hold}
use Rattle.pl_rules.proofs.rules.holding_rows_break_nothing.Goals as goal

pub returns : goal.returns
returns c = all_hold
