use Rattle.std.proofs.lemmas.Option.{IfSome_then}
use Rattle.pl_value.specs.Frames.{rows_of}
use Rattle.pl_value.proofs.Numbers.{two_gives}
use Rattle.pl_value.proofs.truth.leaves_compared.Goals as goal

pub returns : goal.returns
returns g c = IfSome_then c.values_compared.result c.values_compared.ensures (λ t gives calls sub caller.
    two_gives calls sub c.args.pair.now c.args.operator _ _ _ _ (rows_of c.args.frame.now) caller c.in-Compare.is (c.in_ok-a.ensures calls sub caller) (c.in_ok-b.ensures calls sub caller) gives)
