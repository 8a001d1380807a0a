use Rattle.std.proofs.Common.{◌<◌, ◌^◌, rules}
use Rattle.pl_codec.proofs.ReadsBack.{next_back}
use Rattle.pl_codec.proofs.payload.push_next.Goals as goal

pub returns-clause-read_back : goal.returns-clause-read_back
returns-clause-read_back c = let small : c.args.next < 2 ^ 64 = search rules in next_back c.args.table.now c.requires c.args.next small
