use Rattle.pl_codec.proofs.ReadsBack.{define_back}
use Rattle.pl_codec.proofs.payload.push_define.Goals as goal

pub returns-clause-read_back : goal.returns-clause-read_back
returns-clause-read_back c = define_back c.args.text.now c.requires
