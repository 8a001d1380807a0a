use Rattle.std.proofs.Common.{◌∙◌}
use Rattle.std.proofs.lemmas.Option.{IfSome_then}
use Rattle.pl_value.specs.Frames.{rows_of}
use Rattle.pl_value.proofs.Lists.{binary_is}
use Rattle.pl_value.proofs.truth.numbers_hold_in.Goals as goal

pub returns-in-Binary : goal.returns-in-Binary
returns-in-Binary g c = IfSome_then c.numbers_compared.result c.numbers_compared.ensures (λ b reads calls sub caller.
    binary_is calls sub c.args.e.now c.in-Binary.operator c.in-Binary.operands _ (rows_of c.args.frame.now) caller c.in-Binary.is c.get.ensures ∙ reads calls sub caller)
