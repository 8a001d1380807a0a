use Rattle.std.proofs.Common.{FitsSigned, rules}
use Rattle.std.specs.Int.{w32}
use Rattle.pl_codec.proofs.ReadsBack.{int_back}
use Rattle.pl_codec.proofs.payload.push_int.Goals as goal

pub returns-clause-read_back : goal.returns-clause-read_back
returns-clause-read_back c = let fits : FitsSigned w32 c.args.number = search rules in int_back c.args.number fits
