use Rattle.pl_codec.proofs.ReadsBack.{put_back}
use Rattle.pl_codec.proofs.payload.push_put.Goals as goal

pub returns-clause-read_back : goal.returns-clause-read_back
returns-clause-read_back c = put_back c.args.table.now c.requires.named c.args.id c.requires.numbered c.args.row.now c.in_ok-push_values.ensures.read_back
