use Rattle.pl_value.specs.Frames.{rows_of}
use Rattle.pl_value.specs.Number.{number_value}
use Rattle.pl_value.proofs.Numbers.{IsOfChain, of_packed}
use Rattle.pl_value.proofs.number.chain_number.Goals as goal

pub returns : goal.returns
returns g c = of_packed (IsOfChain g.row.C.Denot c.args.chain.now (rows_of c.args.frame.now)) number_value c.unpack.result _ c.unpack.ensures c.chain_packed.ensures
