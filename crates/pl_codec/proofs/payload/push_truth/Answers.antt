use Rattle.pl_codec.proofs.ReadsBack.{truth_back}
use Rattle.pl_codec.proofs.payload.push_truth.Goals as goal

pub returns-clause-read_back : goal.returns-clause-read_back
returns-clause-read_back c = truth_back c.args.truth
