use Rattle.pl_codec.proofs.ReadsBack.{text_value_back}
use Rattle.pl_codec.proofs.payload.push_text_value.Goals as goal

pub returns-clause-read_back : goal.returns-clause-read_back
returns-clause-read_back c = text_value_back c.args.text.now c.requires
