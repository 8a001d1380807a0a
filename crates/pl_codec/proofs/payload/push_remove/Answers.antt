use Rattle.std.proofs.Common.{◌<◌, ◌^◌, rules}
use Rattle.pl_codec.proofs.ReadsBack.{remove_back}
use Rattle.pl_codec.proofs.payload.push_remove.Goals as goal

pub returns-clause-read_back : goal.returns-clause-read_back
returns-clause-read_back c = let small : c.args.id < 2 ^ 64 = search rules in remove_back c.args.table.now c.requires c.args.id small
