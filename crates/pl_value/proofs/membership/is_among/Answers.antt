use Rattle.std.proofs.Common.{rules}
use Rattle.std.proofs.lemmas.Option.{IfSome_then}
use Rattle.pl_value.specs.Frames.{rows_of}
use Rattle.pl_value.specs.Meaning.{value}
use Rattle.pl_value.proofs.Found.{among_all}
use Rattle.pl_value.proofs.membership.is_among.Goals as goal

pub returns : goal.returns
returns g c = IfSome_then c.found.result c.found.ensures (λ t reads calls sub caller.
    among_all (value calls sub) c.args.operands.now _ _ c.args.to.now _ c.get-2.result.now t (rows_of c.args.frame.now) caller (search rules) (c.in_ok-x.ensures calls sub caller) (search rules) (search rules) (reads calls sub caller))
