use Rattle.pl_codec.proofs.ReadsBack.{null_back}
use Rattle.pl_codec.proofs.payload.push_null.Goals as goal

pub returns-clause-read_back : goal.returns-clause-read_back
returns-clause-read_back c = null_back
