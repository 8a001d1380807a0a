use Rattle.pl_meaning.proofs.Scripts.{one_list}
use Rattle.pl_meaning.proofs.script.one_trace.Goals as goal

pub returns : goal.returns
returns c = record { is = one_list }
