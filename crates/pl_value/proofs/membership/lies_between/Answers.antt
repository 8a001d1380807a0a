use Rattle.std.proofs.Common.{rules}
use Rattle.std.proofs.lemmas.Option.{IfSome_then}
use Rattle.pl_value.specs.Frames.{rows_of}
use Rattle.pl_value.specs.Meaning.{value}
use Rattle.pl_value.proofs.Between.{between_all}
use Rattle.pl_value.proofs.membership.lies_between.Goals as goal

pub returns : goal.returns
returns g c = IfSome_then c.between.result c.between.ensures (λ t gives calls sub caller.
    between_all (value calls sub) c.args.operands.now _ _ _ _ c.get.result.now _ c.get-2.result.now _ c.get-3.result.now t (rows_of c.args.frame.now) caller (search rules)
    (c.in_ok-x.ensures calls sub caller) (c.in_ok-low.ensures calls sub caller) (c.in_ok-high.ensures calls sub caller)
    (search rules) (search rules) (search rules) gives)
