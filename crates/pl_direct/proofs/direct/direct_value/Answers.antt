use Rattle.std.proofs.lemmas.Option.{IfSome_then}
use Rattle.pl_direct.proofs.Parts.{whole_is}
use Rattle.pl_direct.proofs.direct.direct_value.Goals as goal

pub returns : goal.returns
returns g c = IfSome_then c.known.result c.known.ensures (λ k is. whole_is _ _ _ _ _ k c.names_in-names.ensures is)
