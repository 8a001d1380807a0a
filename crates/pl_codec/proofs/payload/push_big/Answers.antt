use Rattle.std.proofs.Common.{FitsSigned, rules}
use Rattle.std.specs.Int.{w64}
use Rattle.pl_codec.proofs.ReadsBack.{big_back}
use Rattle.pl_codec.proofs.payload.push_big.Goals as goal

pub returns-clause-read_back : goal.returns-clause-read_back
returns-clause-read_back c = let fits : FitsSigned w64 c.args.number = search rules in big_back c.args.number fits
